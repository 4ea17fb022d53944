-- `card::class_of` meets its contract, keyword by keyword: behind each test the class is among those that are left.
use mathlib.Core.Path.{sym, ◌∙◌}
use Rattle.card.proofs.Classes.{class_empty, class_some, is_word, is_other_lem}
use Rattle.card.proofs.class_of.Goals as goal

pub returns-then-word-eq0 : goal.returns-then-word-eq0
returns-then-word-eq0 c = class_empty c.args.word.now c.if-word-eq0.true

pub returns-then-same_bytes : goal.returns-then-same_bytes
returns-then-same_bytes c =
    is_word _ _ (sym c.same_bytes.ensures ∙ c.if-same_bytes.true)
    ∙ class_some c.args.word.now c.if-word-eq0.false

pub returns-then-same_bytes-2 : goal.returns-then-same_bytes-2
returns-then-same_bytes-2 c =
    is_word _ _ (sym c.same_bytes-2.ensures ∙ c.if-same_bytes-2.true)
    ∙ is_other_lem _ _ (sym c.same_bytes.ensures ∙ c.if-same_bytes.false)
    ∙ class_some c.args.word.now c.if-word-eq0.false

pub returns-then-same_bytes-3 : goal.returns-then-same_bytes-3
returns-then-same_bytes-3 c =
    is_word _ _ (sym c.same_bytes-3.ensures ∙ c.if-same_bytes-3.true)
    ∙ is_other_lem _ _ (sym c.same_bytes-2.ensures ∙ c.if-same_bytes-2.false)
    ∙ is_other_lem _ _ (sym c.same_bytes.ensures ∙ c.if-same_bytes.false)
    ∙ class_some c.args.word.now c.if-word-eq0.false

pub returns-then-same_bytes-4 : goal.returns-then-same_bytes-4
returns-then-same_bytes-4 c =
    is_word _ _ (sym c.same_bytes-4.ensures ∙ c.if-same_bytes-4.true)
    ∙ is_other_lem _ _ (sym c.same_bytes-3.ensures ∙ c.if-same_bytes-3.false)
    ∙ is_other_lem _ _ (sym c.same_bytes-2.ensures ∙ c.if-same_bytes-2.false)
    ∙ is_other_lem _ _ (sym c.same_bytes.ensures ∙ c.if-same_bytes.false)
    ∙ class_some c.args.word.now c.if-word-eq0.false

pub returns-then-same_bytes-5 : goal.returns-then-same_bytes-5
returns-then-same_bytes-5 c =
    is_word _ _ (sym c.same_bytes-5.ensures ∙ c.if-same_bytes-5.true)
    ∙ is_other_lem _ _ (sym c.same_bytes-4.ensures ∙ c.if-same_bytes-4.false)
    ∙ is_other_lem _ _ (sym c.same_bytes-3.ensures ∙ c.if-same_bytes-3.false)
    ∙ is_other_lem _ _ (sym c.same_bytes-2.ensures ∙ c.if-same_bytes-2.false)
    ∙ is_other_lem _ _ (sym c.same_bytes.ensures ∙ c.if-same_bytes.false)
    ∙ class_some c.args.word.now c.if-word-eq0.false

pub returns-then-same_bytes-6 : goal.returns-then-same_bytes-6
returns-then-same_bytes-6 c =
    is_word _ _ (sym c.same_bytes-6.ensures ∙ c.if-same_bytes-6.true)
    ∙ is_other_lem _ _ (sym c.same_bytes-5.ensures ∙ c.if-same_bytes-5.false)
    ∙ is_other_lem _ _ (sym c.same_bytes-4.ensures ∙ c.if-same_bytes-4.false)
    ∙ is_other_lem _ _ (sym c.same_bytes-3.ensures ∙ c.if-same_bytes-3.false)
    ∙ is_other_lem _ _ (sym c.same_bytes-2.ensures ∙ c.if-same_bytes-2.false)
    ∙ is_other_lem _ _ (sym c.same_bytes.ensures ∙ c.if-same_bytes.false)
    ∙ class_some c.args.word.now c.if-word-eq0.false

pub returns : goal.returns
returns c =
    is_other_lem _ _ (sym c.same_bytes-6.ensures ∙ c.if-same_bytes-6.false)
    ∙ is_other_lem _ _ (sym c.same_bytes-5.ensures ∙ c.if-same_bytes-5.false)
    ∙ is_other_lem _ _ (sym c.same_bytes-4.ensures ∙ c.if-same_bytes-4.false)
    ∙ is_other_lem _ _ (sym c.same_bytes-3.ensures ∙ c.if-same_bytes-3.false)
    ∙ is_other_lem _ _ (sym c.same_bytes-2.ensures ∙ c.if-same_bytes-2.false)
    ∙ is_other_lem _ _ (sym c.same_bytes.ensures ∙ c.if-same_bytes.false)
    ∙ class_some c.args.word.now c.if-word-eq0.false
