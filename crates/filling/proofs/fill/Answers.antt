-- What was read stands behind what stood there.
use Rattle.std.proofs.Common.{◌≡◌, ℕ, ◌+◌, ◌-◌, ◌≤◌, List, ◌++◌, rules, length, take, drop, ap, ◌∙◌, subst, sym, le_refl, drop_at, length-take-le}
use Rattle.std.proofs.lemmas.Slice.{take-put_mid_below}
use Rattle.std.specs.Io.KnownBytes.{Consumes}
use Rattle.std.proofs.KnownBytes.{Consumes-trans}
use borrow.Rule.Slice.PartMut.{put_mid, post_of}
use lib.Seq.{take-add, take-append-le}
use Rattle.filling.proofs.fill.Goals as goal

joined : (at k n : ℕ) (xs ys : List ℕ) → at ≤ length xs → n ≤ length ys → take (at + n) (put_mid at k xs ys) ≡ take at xs ++ take n ys
joined at k n xs ys within fits =
    let after = post_of at k xs in
    take-add at n (put_mid at k xs ys)
    ∙ ap (λ l. l ++ take n (drop at (put_mid at k xs ys))) (take-put_mid_below _ _ _ _ _ (le_refl _) within)
    ∙ ap (λ l. take at xs ++ l) (ap (take n) (drop_at (take at xs) (ys ++ after) at (length-take-le at xs within)) ∙ take-append-le n ys after fits)

pub loop-n-preserved : goal.loop-n-preserved
loop-n-preserved g c =
    let l = c.loop-n in
    let read = c.in_ok-got.ensures in
    let e = joined l.n (length l.room - l.n) c.in_ok-got.got l.room c.read.new.buf l.invariant.0 read.bound.0 in
    (search rules, search rules, subst (Consumes _ _) (sym e) (Consumes-trans _ _ _ _ _ l.invariant.2 read.bytes.0))
