-- The loop's invariant: the place behind as many fill bits as were read.
use Prim.Native.Nat.{◌≤◌, ◌+◌}
use mathlib.Core.Path.{◌≡◌}
use Rattle.bits.specs.Place.{At}
use Rattle.rule_image.specs.Reading.{fill_bits}
use Rattle.rule_image.proofs.fill.fill_bits.Given as goal

abbrev pub invariant-loop : goal.invariant-loop
invariant-loop l = record { place : fill_bits l.image (At l.at) l.counter ≡ At l.end; near : l.end ≤ l.at + l.counter }
