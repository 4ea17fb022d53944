-- `meanings::meaning` meets its contract: no words are longer than a text.
use mathlib.Core.Path.{ap, ◌∙◌}
use lib.Seq.{take_all}
use Rattle.text.specs.Text.{size, text_of}
use Rattle.meanings.proofs.meaning.Goals as goal

pub returns : goal.returns
returns c =
    let words = c.words in
    c.text_of.ensures ∙ ap text_of (take_all size words.result.now words.ensures.fits ∙ words.ensures.value)
