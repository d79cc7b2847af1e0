-- The bytes take the place of those that stood there.
use mathlib.Core.Path.{refl}
use Rattle.rendering.proofs.Stores.{put_in, kept}
use Rattle.rendering.proofs.Writer.put.Goals as goal

pub returns : goal.returns
returns c =
    let w = put_in c.args.self.now.out.now c.args.bytes.now c.args.self.now.at c.requires in
    rw c.copy_from_slice.ensures.after (record { same = refl; size = kept _ _ _ _ _ w; is = w })
