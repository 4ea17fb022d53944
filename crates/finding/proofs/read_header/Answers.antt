-- `finding::read_header` meets its contract: what is found says what the header is.
use Rattle.std.proofs.Common.{[], sym, ap, ◌∙◌}
use Rattle.std.proofs.lemmas.Result.{err_from_is_err_and}
use Rattle.std.specs.Prelude.{Err}
use Rattle.finding.proofs.Searching.{header_refused, header_read}
use Rattle.finding.proofs.read_header.Goals as goal

pub returns-in_err-found : goal.returns-in_err-found
returns-in_err-found c =
    let h = c.args.header.now in
    let p = err_from_is_err_and c.from_residual.result c.from_residual.ensures.1 in
    p.1 ∙ ap Err p.2 ∙ sym (header_refused h [] c.in_err-found.field-0.0 (sym c.find.ensures ∙ c.in_err-found.was))

pub returns : goal.returns
returns c = sym (header_read c.args.header.now [] c.in_ok-found.found (sym c.find.ensures ∙ c.in_ok-found.was)).0
