-- `listing::refused` meets its contract: every place is free.
use Rattle.std.specs.Prelude.{Err}
use mathlib.Core.Path.{◌∙◌}
use Rattle.text.proofs.Texts.{filled_none}
use Rattle.listing.specs.Listing.{free, places}
use Rattle.listing.proofs.refused.Goals as goal

pub returns : goal.returns
returns c =
    let freed = c.free_all.ensures in
    let unused = filled_none free places in
    λ j.
    record {
      header = Err c.args.stop;
      first = (freed.0 ∙ unused) j;
      last = (freed.1 ∙ unused) j;
      times = (freed.2 ∙ filled_none 0 places) j;
      count = 0;
    }
