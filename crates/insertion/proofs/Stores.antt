-- Runs of stores.
use Rattle.std.proofs.Common.{◌≡◌, refl, sym, ap, ◌∙◌, ℕ, suc, ◌+◌, ◌-◌, ◌≤◌, List, [], ◌∷◌, ◌++◌, length, take, drop, set, arith, append_assoc, length-append, length-drop, take-take, Option, None, Some}
use Rattle.std.proofs.lemmas.List.{drop-take, take-append-le}
use Rattle.std.specs.List.{copy_within}
use lib.Seq.{sets, sets-eq, length-sets, length-paste, take-set-le, drop_at, take_at, length-take-le}
use Rattle.ranges.specs.Range.{Range}
use Rattle.ranges.specs.Words.{ranges}
use Rattle.insertion.specs.Parts.{pieces, middle, Planned, Inserted, Put}
use Rattle.insertion.specs.declared.Plan.{Plan}

module _ {A : Type 0} where
  take-low : (l : List A) (p : ℕ) (vs : List A) (i : ℕ) → i ≤ p → take i (sets l p vs) ≡ take i l
  take-low l p [] i h = refl
  take-low l p (v ∷ vs) i h = take-low (set l p v) (suc p) vs i (omega arith) ∙ take-set-le i l p v h

  sets-append : (l : List A) (p q : ℕ) (us vs : List A) → q ≡ p + length us → sets l p (us ++ vs) ≡ sets (sets l p us) q vs
  sets-append l p q [] vs h = let e : q ≡ p = omega arith in rw e
  sets-append l p q (u ∷ us) vs h = sets-append (set l p u) (suc p) q us vs (omega arith)

  -- a part that was moved, and what is stored in front of it
  stored : (xs mid seg : List A) (left to : ℕ) → left + length mid ≡ to → to + length seg ≤ length xs
      → take (to + length seg) (sets (take to xs ++ seg ++ drop (to + length seg) xs) left mid) ≡ take left xs ++ (mid ++ seg)
  stored xs mid seg left to h k =
      let s = take to xs ++ seg ++ drop (to + length seg) xs in
      let u : length (take to xs) ≡ to = length-take-le to xs (omega arith) in
      let n : length s ≡ length xs = rw (length-append, length-append, length-drop, u) (omega arith) in
      let a : sets s left mid ≡ take left s ++ mid ++ drop (left + length mid) s = sets-eq mid s left (omega arith) in
      let b : take left s ≡ take left xs = ap (take left) (append_assoc (take to xs) seg (drop (to + length seg) xs)) ∙ take-append-le left (take to xs) (seg ++ drop (to + length seg) xs) (omega arith) ∙ take-take left to xs (omega arith) in
      let d : drop to s ≡ seg ++ drop (to + length seg) xs = rw append_assoc (drop_at (take to xs) (seg ++ drop (to + length seg) xs) to u) in
      let p = take left xs ++ (mid ++ seg) in
      let v : length (take left xs) ≡ left = length-take-le left xs (omega arith) in
      let w : length p ≡ to + length seg = rw (length-append, length-append, v) (omega arith) in
      let z : take left xs ++ mid ++ (seg ++ drop (to + length seg) xs) ≡ p ++ drop (to + length seg) xs = simp append_assoc in
      ap (take (to + length seg)) (a ∙ rw (b, h, d) z) ∙ take_at p (drop (to + length seg) xs) (to + length seg) w

one_piece : (o : Option ℕ) → length (pieces o) ≤ 1
one_piece None = omega arith
one_piece (Some w) = omega arith

-- the stores of a plan are one run of stores
three : (xs ys zs : List ℕ) (left a word : ℕ) (cut rest : Option ℕ) → a ≡ length (pieces cut) → Put xs left cut ys → Put (set ys (left + a) word) (left + a + 1) rest zs
    → zs ≡ sets xs left (pieces cut ++ (word ∷ pieces rest))
three xs ys zs left a word cut rest u f g =
    let r : left + a + 1 ≡ suc (left + a) = omega arith in
    rw (f.is, r) at g.is ∙ sym (sets-append xs left (left + a) (pieces cut) (word ∷ pieces rest) (ap (λ (q : ℕ). left + q) u))

pub inserted : (l : List Range) (xs ms ys zs : List ℕ) (n a b : ℕ) (p : Plan) → Planned l (take n xs) p → n + 2 ≤ length xs
    → a ≡ length (pieces p.cut) → b ≡ length (pieces p.rest)
    → ms ≡ copy_within xs (n - p.behind) n (p.front + a + 1 + b)
    → Put ms p.front p.cut ys
    → Put (set ys (p.front + a) p.word) (p.front + a + 1) p.rest zs
    → Inserted l xs zs n (p.front + a + 1 + b + p.behind)
inserted l xs ms ys zs n a b p d k u v e f g =
    let to = p.front + a + 1 + b in
    let m = n - (n - p.behind) in
    let seg = take m (drop (n - p.behind) xs) in
    let Y = copy_within xs (n - p.behind) n to in
    let few = d.few in
    let tn : length (take n xs) ≡ n = length-take-le n xs (omega arith) in
    let one : length (pieces p.cut) ≤ 1 = one_piece p.cut in
    let one' : length (pieces p.rest) ≤ 1 = one_piece p.rest in
    let mb : m ≡ p.behind = omega arith in
    let sl : length seg ≡ m = length-take-le m (drop (n - p.behind) xs) (omega (arith, length-drop (n - p.behind) xs)) in
    let sb : length seg ≡ p.behind = sl ∙ mb in
    let Ys : Y ≡ take to xs ++ seg ++ drop (to + length seg) xs = rw sl in
    let mid : p.front + length (middle p) ≡ to = simp length-append (omega arith) in
    let w : drop (length (take n xs) - p.behind) (take n xs) ≡ seg = rw tn (ap (λ (q : ℕ). drop (n - p.behind) (take q xs)) (omega arith) ∙ drop-take (n - p.behind) m xs) in
    let t : take p.front (take n xs) ≡ take p.front xs = take-take p.front n xs (omega arith) in
    let is : zs ≡ sets Y p.front (middle p) = three Y ys zs p.front a p.word p.cut p.rest u (rw e at f) g in
    let all = stored xs (middle p) seg p.front to mid (omega arith) in
    record {
      few = omega arith;
      size = ap length is ∙ length-sets Y p.front (middle p) ∙ length-paste xs to (drop (n - p.behind) xs) m (omega arith) (omega (arith, length-drop (n - p.behind) xs));
      list = ap (λ (q : ℕ). ranges (take (to + q) zs)) (sym sb) ∙ ap (λ (q : List ℕ). ranges (take (to + length seg) q)) (is ∙ ap (λ (q : List ℕ). sets q p.front (middle p)) Ys) ∙ ap ranges all ∙ rw (w, t) at (sym d.list);
    }
