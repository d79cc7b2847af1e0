-- The digits, and the line's end behind them.
use mathlib.Core.List.{[], ◌∷◌}
use Rattle.rendering.specs.Text.{decimal}
use Rattle.rendering.proofs.Stores.{behind}
use Rattle.rendering.proofs.Writer.put_last.Goals as goal

pub returns : goal.returns
returns c = behind (decimal c.args.n) (10 ∷ []) c.put_decimal.ensures c.put.ensures
