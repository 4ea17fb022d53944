-- Splitting a card's text (SPECIFICATION 4).
use Rattle.std.specs.Prelude.{ℕ, suc, List, map, drop, Some, None, Result, Ok, Err}
use Rattle.refusal.specs.declared.Refusal.TheVariants as R
use Rattle.refusal.specs.Numbers.{fault_of}
use Rattle.splitting.specs.declared.Slash.{Slash}
use Rattle.splitting.specs.declared.Slash.TheVariants.{At, Nowhere, Bad}
use Rattle.refusal.specs.declared.Fault.{Fault}
use Rattle.splitting.specs.declared.Quoting.TheVariants.{Outside}
use Rattle.splitting.specs.declared.Halves.{Halves}
use Rattle.text.specs.Bytes.{is_space, is_blank, shown}
use Rattle.text.specs.Trim.{trim, trim_end}
use Rattle.text.specs.Text.{text_of}
use Rattle.splitting.specs.Scan.{scan_from}

-- by where the slash stands in the trimmed text s, whose value text is v
abbrev pub parts_at : Slash → List ℕ → List ℕ → Result Halves Fault
parts_at (At i) s v =
    Ok (record {
      value = text_of (trim is_space v);
      comment = Some (text_of (trim_end is_space (map shown (drop (suc i) s))));
    })
parts_at Nowhere s v = Ok (record { value = text_of (trim is_space v); comment = None })
parts_at (Bad i) s v = Err (fault_of R.OddByte)

unfoldable pub split_of : List ℕ → Result Halves Fault
split_of t =
    let s = trim is_blank t in
    let r = scan_from Outside s 0 in
    parts_at r.place s r.value
