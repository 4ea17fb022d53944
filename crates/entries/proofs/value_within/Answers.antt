-- `entries::value_within` meets its contract: what is joined is laid, or a refused card was met.
use Rattle.std.proofs.Common.{ℕ, List, [], ap, ◌∙◌}
use Rattle.numbers.specs.declared.Value.TheVariants.{String}
use Rattle.entries.specs.declared.ValueHalf.{ValueHalf}
use Rattle.entries.specs.Halves.{value_left, value_laid}
use Rattle.entries.proofs.Texts.{string-laid, string_refused_lem}
use Rattle.entries.proofs.value_within.Goals as goal

pub returns-in_default : goal.returns-in_default
returns-in_default c =
    let text = c.args.text.now in
    c.lay_value.ensures
    ∙ ap (λ (s : List ℕ). value_laid String [] s text) c.first_of.ensures
    ∙ string-laid c.join_texts-end.ensures text c.in_default.not-Met

pub returns : goal.returns
returns c =
    let text = c.args.text.now in
    ap (λ (v : ValueHalf). value_left v text) c.no_value.ensures
    ∙ string_refused_lem c.join_texts-end.ensures text c.in-Met.stop c.in-Met.is
