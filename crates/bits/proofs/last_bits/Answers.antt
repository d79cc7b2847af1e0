use Prim.Native.Nat.{ℕ, ◌<◌, ◌+◌, ◌-◌, ◌*◌, ◌/◌, ◌^◌, ◌≤◌}
use mathlib.Core.Path.{◌≡◌, refl, ◌∙◌}
use mathlib.Core.List.{List}
use lib.ListN.{length, get_or, take, drop}
use Rattle.std.proofs.lemmas.List.{get_or-drop, get_or-take, length-drop, length-take}
use Rattle.bits.proofs.BitsLaws.{bits-lt, bits-under, byte_next, from_bytes, one-pos, rest_lt}
use native.Mathlib.Omega.{arith}
use Rattle.bits.proofs.last_bits.Goals as goal
use Rattle.bits.proofs.last_bits.Goals.{In-loop-byte}

-- the bytes from f on, n of them
size : (s : List ℕ) (f n : ℕ) → f + n ≤ length s → length (take n (drop f s)) ≡ n
size s f n h = omega (arith, length-take n (drop f s), length-drop f s)

byte : (s : List ℕ) (f n i : ℕ) → i < n → get_or (take n (drop f s)) i 0 ≡ get_or s (f + i) 0
byte s f n i h = get_or-take n (drop f s) i 0 h ∙ get_or-drop f s i 0

passed : (c : In-loop-byte) → c.loop-byte.byte-index < (c.args.at + c.args.width + 7) / 8 - c.args.at / 8
passed c = let a = c.args in omega (arith, c.loop-byte-test.true, size a.image.now (a.at / 8) ((a.at + a.width + 7) / 8 - a.at / 8) (omega arith))

small : (c : In-loop-byte) → c.loop-byte.v < 2 ^ 32
small c = omega (arith, c.loop-byte.invariant, bits-under c.args.image.now (8 * (c.args.at / 8)) (8 * c.loop-byte.byte-index) 32 (omega (arith, passed c)))

pub loop-byte-init : goal.loop-byte-init
loop-byte-init c = omega (arith, bits-lt c.args.image.now (8 * (c.args.at / 8)) 0)

pub overflow_mul-v : goal.overflow_mul-v
overflow_mul-v c = omega (arith, small (goal.at.overflow_mul-v c).In-loop-byte)

pub overflow_add-v : goal.overflow_add-v
overflow_add-v c =
    let d = (goal.at.overflow_add-v c).In-loop-byte in
    let i = c.loop-byte.byte-index in
    omega (arith, small d, c.from.ensures, byte c.args.image.now (c.args.at / 8) ((c.args.at + c.args.width + 7) / 8 - c.args.at / 8) i (passed d), c.type_inv.image (c.args.at / 8 + i))

pub loop-byte-preserved : goal.loop-byte-preserved
loop-byte-preserved c =
    let d = (goal.at.loop-byte-preserved c).In-loop-byte in
    let i = c.loop-byte.byte-index in
    let e = c.from.ensures ∙ byte c.args.image.now (c.args.at / 8) ((c.args.at + c.args.width + 7) / 8 - c.args.at / 8) i (passed d) in
    let more : 8 * (i + 1) ≡ 8 * i + 8 = omega arith in
    rw (e, c.loop-byte.invariant, more) (byte_next c.args.image.now (c.args.at / 8) i (omega (arith, c.type_inv.image (c.args.at / 8 + i))))

pub nonzero_rem-result : goal.nonzero_rem-result
nonzero_rem-result c = one-pos _ c.requires.1

pub overflow_cast-result : goal.overflow_cast-result
overflow_cast-result c = record { fits = rest_lt _ _ c.requires.1 }

pub returns : goal.returns
returns c =
    let l = c.loop-byte in
    let a = c.args in
    let e : l.byte-index ≡ (a.at + a.width + 7) / 8 - a.at / 8 =
    omega (arith, c.loop-byte-test.false, l.auto.byte-index-end, size a.image.now (a.at / 8) ((a.at + a.width + 7) / 8 - a.at / 8) (omega arith)) in
    from_bytes a.image.now a.at a.width (a.at / 8) ((a.at + a.width + 7) / 8) l.v c.requires.1 refl refl (rw e at l.invariant)
