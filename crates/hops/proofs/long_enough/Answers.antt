-- `hops::long_enough` meets its contract.
-- Assumes nothing.
use Rattle.std.proofs.Common.{arith}
use Rattle.matrix.proofs.Matrix.{square_small}
use Rattle.net.proofs.Nodes.{count_most}
use Rattle.table.specs.Links.{present}
use Rattle.hops.proofs.long_enough.Goals as goal

pub overflow_mul-p : goal.overflow_mul-p
overflow_mul-p g c =
    let net = c.args.net.now in
    omega (arith, square_small c.count_present-p.result (omega (arith, c.count_present-p.ensures, count_most (present net.map.bound net.marks.now) net.map.bound)))
