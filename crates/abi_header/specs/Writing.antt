-- What is written of an answer that is known.
use Rattle.std.specs.Prelude.{ℕ, ◌≡◌, List, ℤ, Result, Bool}
use Rattle.laws.specs.Lending.{Lent}
use Rattle.numbers.specs.declared.Value.{Value}
use Rattle.entries.specs.declared.NoEntry.{NoEntry}
use Rattle.entries.specs.declared.ValueHalf.{ValueHalf}
use Rattle.listing.specs.declared.Listing.{Listing}
use Rattle.abi_header.specs.Headers.{value_said, digits_after, numbers_after, number_after, value_column}
use Rattle.abi_header.specs.Headers.{CommentMemory, comment_stored, list_outcome, list_told}
use Rattle.finding.specs.declared.Stop.{Stop}

-- the value that was read, where a is its answer
pub record ValueWritten
    (a : Result Value NoEntry) (read : ValueHalf) (digits out : Lent (List ℕ)) (number : Lent ℤ) (column : Lent ℕ) (r : ℕ) : Type 0 where
  pub said : r ≡ value_said a
  pub in_digits : digits.left ≡ digits_after a read digits.was
  pub in_numbers : out.left ≡ numbers_after a read out.was
  pub in_number : number.left ≡ number_after a number.was
  pub in_column : column.left ≡ value_column a column.was

-- the comment that was read, where a is its answer and n its length, whatever its buffer holds
abbrev pub CommentWritten : Result Bool NoEntry → ℕ → Lent ℕ → Lent ℕ → Lent ℕ → Lent ℕ → ℕ → Type 0
CommentWritten a n commented bytes card column r =
    (c : List ℕ)
    → ◌≡◌ {A = CommentMemory}
    (record {
      answer = r;
      comment = c;
      commented = commented.left;
      bytes = bytes.left;
      card = card.left;
      column = column.left;
    })
    (comment_stored a n c commented.was bytes.was card.was column.was)

-- what was listed, where a is the header's answer
abbrev pub ListWritten :
    Result ℕ Stop → Listing → Lent (List ℕ) → Lent (List ℕ) → Lent (List ℕ) → Lent ℕ → Lent ℕ → ℕ → Type 0
ListWritten a read first last times count column r =
    list_outcome r first.left last.left times.left count.left column.left
    ≡ list_told a read first.was last.was times.was column.was
