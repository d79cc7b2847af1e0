-- The state at a minute, read off the words: the first that covers it decides.
use Rattle.std.proofs.Common.{◌≡◌, refl, sym, ℕ, ◌+◌, ◌*◌, ◌%◌, List, [], ◌∷◌, arith, None, Some}
use Rattle.std.specs.List.{find}
use Rattle.std.specs.Option.{option_map_or}
use Rattle.ranges.specs.States.{covers, state_at, lit}
use Rattle.ranges.specs.Words.{range_of, ranges}
use Rattle.ranges.proofs.Cases.{by}
use Rattle.ranges.proofs.WordLaws.{of-kind, of-comment}
use Rattle.listing.specs.Listing.{state_word}

low_bits : (w : ℕ) → w % 1024 ≡ (range_of w).kind * 256 + (range_of w).comment
low_bits w = rw (of-kind w, of-comment w) (omega arith)

-- the first range that covers the minute says what is shown there
shown : (t : ℕ) (xs : List ℕ) → state_word (lit (state_at (ranges xs) t)) ≡ option_map_or (λ w. w % 1024) (find (λ w. covers (range_of w) t) xs) 256
shown t [] = refl
shown t (w ∷ xs) = by (covers (range_of w) t) (λ e. rw e (sym (low_bits w))) (λ e. rw e (shown t xs))

pub shown_some : (t : ℕ) (xs : List ℕ) (w : ℕ) → Some w ≡ find (λ x. covers (range_of x) t) xs → w % 1024 ≡ state_word (lit (state_at (ranges xs) t))
shown_some t xs w e = sym (rw (← e) at (shown t xs))

pub shown_none : (t : ℕ) (xs : List ℕ) → None ≡ find (λ x. covers (range_of x) t) xs → 256 ≡ state_word (lit (state_at (ranges xs) t))
shown_none t xs e = sym (rw (← e) at (shown t xs))
