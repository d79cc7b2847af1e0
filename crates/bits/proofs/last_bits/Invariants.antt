-- The loop's invariant: v is the number of the bits of the bytes passed.
use Prim.Native.Nat.{◌*◌, ◌/◌}
use mathlib.Core.Path.{◌≡◌}
use Rattle.bits.specs.Bits.{bits}
use Rattle.bits.proofs.last_bits.Given as goal

abbrev pub invariant-loop-byte : goal.invariant-loop-byte
invariant-loop-byte l = l.v ≡ bits l.image (8 * (l.at / 8)) (8 * l.byte-index)
