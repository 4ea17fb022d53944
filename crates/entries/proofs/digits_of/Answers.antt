-- `entries::digits_of` meets its contract: only a decimal has digits.
use Rattle.std.proofs.Common.{◌≡◌, ℕ, List, [], length, take, sym, ap, ◌∙◌, cond, rules}
use Rattle.text.specs.Text.{size, text_of, bytes_of}
use Rattle.text.proofs.Texts.{whole-text, bytes_fit}
use Rattle.numbers.specs.declared.Value.{Value}
use Rattle.roles.specs.Roles.{has_digits}
use Rattle.entries.proofs.digits_of.Goals as goal

pub returns : goal.returns
returns c =
    let t = c.args.own in
    let array : length t.bytes ≡ size = search rules in
    c.text_of.ensures
    ∙ ap (λ (l : List ℕ). text_of (take size l)) c.as_slice.ensures.bytes
    ∙ whole-text (bytes_of t) (bytes_fit t array)
    ∙ sym (ap (λ (v : Value). text_of (cond (has_digits v) (bytes_of t) [])) c.in-Float.is)
