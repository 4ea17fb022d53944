-- What the passes over an entry's cards hand over: where the entry is sought, and its text and comment as they stand in scratch.
use Rattle.std.specs.Prelude.{ℕ, suc, ◌+◌, ◌*◌, ◌/◌, ◌<◌, ◌≤◌, ◌≡◌, Bool, true, false, cond, List, [], ◌∷◌, eqb, ltb, length, take, drop}
use Rattle.std.specs.Prelude.{Option, None, Some, Result, Ok, Err}
use Prim.Native.Char.{code}
use Rattle.text.specs.Bytes.{is_space}
use Rattle.text.specs.Text.{bytes_of}
use Rattle.numbers.specs.declared.Value.TheVariants.{String}
use Rattle.card.specs.declared.CardRead.{CardRead}
use Rattle.roles.specs.Roles.{Comment, Words, Role, entry, more, neutral, last, refused, comment_read}
use Rattle.roles.specs.Cards.{role_no, roles_of}
use Rattle.joining.specs.Words.{ends_open, adds_nothing, opens, join_text, join_comment}
use Rattle.joining.specs.Lookup.{join_on}
use Rattle.finding.specs.declared.Stop.{Stop}
use Rattle.finding.specs.Finding.{stop_at}
use Rattle.entries.specs.declared.Reach.{Reach}
use Rattle.entries.specs.declared.Reach.TheVariants.{On, Ended, Met}
use Rattle.entries.specs.declared.TextHeld.{TextHeld}
use Rattle.entries.specs.declared.CommentHeld.{CommentHeld}
use Rattle.entries.specs.Answers.{met_on}
use Rattle.entries.specs.Halves.{Sought, stops, missing, unless_stopped, numbered_from}

-- ---- where an entry is sought
abbrev pub sought_at : Result (Option ℕ) Stop → List ℕ → Sought
sought_at (Ok (Some i)) h = numbered_from (drop i (roles_of h)) i
sought_at (Ok None) h = missing
sought_at (Err s) h = stops s

-- the header has that card, and no more than 720
abbrev pub IsWithin : Result (Option ℕ) Stop → List ℕ → Type 0
IsWithin (Ok (Some i)) h = (i < length h / 80) × (length h / 80 ≤ 720)
IsWithin (Ok None) h = Unit {0}
IsWithin (Err s) h = Unit {0}

pub record Spotted (r : Result (Option ℕ) Stop) (h : List ℕ) (x : Sought) : Type 0 where
  pub is : sought_at r h ≡ x
  pub within : IsWithin r h

-- ---- joining
-- the words that a card begins: nothing is joined to them where it is no entry
abbrev pub words_of : Role → Words
words_of (entry n v) = v.words
words_of (more t c) = record { text = t; comment = c; joins = false }
words_of neutral = record { text = []; comment = None; joins = false }
words_of last = record { text = []; comment = None; joins = false }
words_of (refused f) = record { text = []; comment = None; joins = false }

abbrev pub words_at : List ℕ → ℕ → Words
words_at h i = words_of (role_no h i)

-- the words of card i with the cards that are joined to it
abbrev pub joined_words : List ℕ → ℕ → Words
joined_words h i = join_on (words_at h i) (drop (i + 1) (roles_of h))

-- the refused card that is met while cards are joined to card i
abbrev pub met_at : List ℕ → ℕ → Option Stop
met_at h i = met_on (words_at h i) (drop (i + 1) (roles_of h)) (suc i)

-- the string that card i begins, with those cards
abbrev pub string_at : List ℕ → ℕ → Sought
string_at h i = unless_stopped (met_at h i) (Some (record { value = String; digits = []; words = joined_words h i }))

-- an open text with a card behind it, and a comment
abbrev pub text_by : Role → List ℕ → List ℕ
text_by (entry n v) s = s
text_by (more t c) s = join_text s t
text_by neutral s = s
text_by last s = s
text_by (refused f) s = s

abbrev pub comment_by : Role → Comment → Comment
comment_by (entry n v) k = k
comment_by (more t c) k = join_comment k c
comment_by neutral k = k
comment_by last k = k
comment_by (refused f) k = k

-- whether more may be joined then, where card j is behind them, by whether a CONTINUE card leaves the text open
abbrev pub reach_by : Role → ℕ → Bool → Reach
reach_by (entry n v) j opened = Ended
reach_by (more t c) j opened = cond opened On Ended
reach_by neutral j opened = On
reach_by last j opened = Ended
reach_by (refused f) j opened = Met (stop_at f j)

-- the refused card that was met
abbrev pub stop_in : Reach → Option Stop
stop_in On = None
stop_in Ended = None
stop_in (Met s) = Some s

-- ---- whether a text is open, without the text: an empty CONTINUE card takes the & and the spaces before it, so that an earlier & may
-- stand at its end again
-- the ampersands at the end of a text, spaces between them aside, where k stand before it
abbrev pub passing : ℕ → ℕ → ℕ
passing k b = cond (eqb b (code "&")) (suc k) (cond (is_space b) k 0)

unfoldable pub ampersands : ℕ → List ℕ → ℕ
ampersands k [] = k
ampersands k (b ∷ s) = ampersands (passing k b) s

-- whether the text is open where k of them are left with the text t of a CONTINUE card at its end
abbrev pub opens_by : ℕ → List ℕ → Bool
opens_by k t = cond (adds_nothing t) (ltb 0 k) (ends_open t)

-- ---- the passes
-- card i is an open string of a header of at most 720 cards
pub record IsOpenAt (h : List ℕ) (i : ℕ) : Type 0 where
  pub card : i < length h / 80
  pub few : length h / 80 ≤ 720
  pub opened : opens (words_at h i) ≡ true

-- there is room for each card's text, or its comment and a line feed
abbrev pub IsWide : List ℕ → List ℕ → Type 0
IsWide h scratch = 81 * (length h / 80) ≤ length scratch

-- no joined text is longer
abbrev pub longest_joined : ℕ
longest_joined = 720 * 80

-- a card has these words
pub record BeginsWith (part : CardRead) (w : Words) : Type 0 where
  pub text : bytes_of part.text ≡ w.text
  pub comment : comment_read part.comment ≡ w.comment

-- card j behind the open text of n bytes
pub record NextText (role : Role) (j n : ℕ) (r : TextHeld) (texts texts₁ : List ℕ) : Type 0 where
  pub text : take r.length texts₁ ≡ text_by role (take n texts)
  pub reach : r.reach ≡ reach_by role j (ends_open (take r.length texts₁))
  pub short : r.length ≤ n + 79

-- all cards were joined to card i, or a refused card was met
pub record JoinedTexts (h : List ℕ) (i : ℕ) (r : TextHeld) (texts : List ℕ) : Type 0 where
  pub met : stop_in r.reach ≡ met_at h i
  pub text : met_at h i ≡ None → take r.length texts ≡ (joined_words h i).text
  pub within : r.length ≤ length texts

abbrev pub reached_by : CommentHeld → Reach → CommentHeld
reached_by held reach =
    record { ampersands = held.ampersands; comment = held.comment; reach = reach }

-- a comment as it stands in scratch, if there is one, and how many bytes it has there
abbrev pub heard : Option ℕ → List ℕ → Comment
heard None comments = None
heard (Some n) comments = Some (take n comments)

abbrev pub span : Option ℕ → ℕ
span None = 0
span (Some n) = n

abbrev pub comment_held : CommentHeld → List ℕ → Comment
comment_held held comments = heard held.comment comments

-- card j behind an open text, of which the ampersands at the end are known, and a comment
pub record NextComment (role : Role) (j : ℕ) (held r : CommentHeld) (comments comments₁ : List ℕ) : Type 0 where
  pub comment : comment_held r comments₁ ≡ comment_by role (comment_held held comments)
  pub text : (s : List ℕ) → ends_open s ≡ true → ampersands 0 s ≡ held.ampersands
      → (ampersands 0 (text_by role s) ≡ r.ampersands) × (r.reach ≡ reach_by role j (ends_open (text_by role s)))
  pub short : span r.comment ≤ span held.comment + 81
  pub few : r.ampersands ≤ held.ampersands + 80

pub record JoinedComments (h : List ℕ) (i : ℕ) (r : CommentHeld) (comments : List ℕ) : Type 0 where
  pub met : stop_in r.reach ≡ met_at h i
  pub comment : met_at h i ≡ None → comment_held r comments ≡ (joined_words h i).comment
  pub within : span r.comment ≤ length comments
