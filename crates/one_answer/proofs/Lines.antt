-- One answer: the lines of `cards`, each with the buffer that is lent.
use mathlib.Core.Path.{sym, ◌∙◌}
use Rattle.lines.specs.Lines.{line_outcome}
use Rattle.one_answer.specs.OneAnswer.{OneAnswer}
use Rattle.lines.proofs.entry_line.Reads as entry-line-reads
use Rattle.lines.proofs.count_line.Reads as count-line-reads
use Rattle.lines.proofs.refused_line.Reads as refused-line-reads

-- `lines::entry_line`
pub entry_line_lem : OneAnswer entry-line-reads.Post (λ r s. line_outcome r s.1.1.1.1.1.0.now)
entry_line_lem κs a r q s t x y = x.0 ∙ sym y.0

-- `lines::count_line`
pub count_line_lem : OneAnswer count-line-reads.Post (λ r s. line_outcome r s.1.0.now)
count_line_lem κs a r q s t x y = x.0 ∙ sym y.0

-- `lines::refused_line`
pub refused_line_lem : OneAnswer refused-line-reads.Post (λ r s. line_outcome r s.1.1.0.now)
refused_line_lem κs a r q s t x y = x.0 ∙ sym y.0
