-- What holds of each number and its limit is what the test of all says.
use Rattle.std.proofs.Common.{◌<◌, ◌↔◌, IsTrue, EachIndex, get_or, rules}
use Rattle.rows.specs.Pack.{below}
use Rattle.rows.proofs.Appending.{all_below, each_below, same}
use Rattle.rows.proofs.pack.fits.Goals as goal

pub returns : goal.returns
returns c =
    let vs = c.args.nums.now in
    let ls = c.args.limits.now in
    let each : IsTrue c.all.result ↔ EachIndex vs (λ k. get_or vs k 0 < get_or ls k 0) = search rules in
    same c.all.result (below ls vs) (λ t. all_below ls vs c.requires (each.0 t)) (λ t. each.1 (each_below ls vs t))
