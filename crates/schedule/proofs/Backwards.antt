-- A loop over a list from its end: the front of the list is left, and what is behind it is done.
use Rattle.std.proofs.Common.{◌≡◌, refl, sym, ap, ◌∙◌, ℕ, ◌≤◌, List, [], ◌∷◌, ◌++◌, length, take, drop, arith, append_assoc, length-append, take-append-drop}
use lib.Seq.{take_at, drop_at}

-- ys are the first of xs
pub record Front (xs ys : List ℕ) : Type 0 where
  pub few : length ys ≤ length xs
  pub is : take (length ys) xs ≡ ys

abbrev pub done : List ℕ → List ℕ → List ℕ
done xs ys = drop (length ys) xs

module _ (xs ys zs : List ℕ) (w : ℕ) (st : Front xs ys) (e : ys ≡ zs ++ (w ∷ [])) where
  whole : xs ≡ zs ++ (w ∷ done xs ys)
  whole = sym (take-append-drop (length ys) xs) ∙ ap (λ (l : List ℕ). l ++ done xs ys) (st.is ∙ e) ∙ append_assoc zs (w ∷ []) (done xs ys)

  -- the last of what is left is next
  pub done_more : done xs zs ≡ w ∷ done xs ys
  done_more = ap (drop (length zs)) whole ∙ drop_at zs (w ∷ done xs ys) (length zs) refl

  pub front_less : Front xs zs
  front_less = record {
    few = omega (arith, ap length e, length-append zs (w ∷ []), st.few);
    is = ap (take (length zs)) whole ∙ take_at zs (w ∷ done xs ys) (length zs) refl;
  }
