-- The tests of what is lent, before a search from a source.
-- Assumes nothing.
use Rattle.std.specs.Prelude.{cond, ◌&&◌, ℕ}
use Rattle.net.specs.Net.{Net, whole_net, inside_net, has, most_arcs_of}
use Rattle.rows.specs.Rows.{Lists}
use Rattle.rows.specs.Scratch.{has_lists}
use Rattle.turns.specs.Memory.{Memory}
use Rattle.search.specs.Lists.{has_memory}

-- 1 where a limit is passed or a lent list is too short, 2 where a link names an index that the map has not,
-- 3 where the source is one, else 0
unfoldable pub check_no : {C W K : Type 0} → Net C → ℕ → Lists W → Memory K → ℕ
check_no g s l M =
    cond (whole_net g && (has_lists g.bound (most_arcs_of g) l && has_memory g.bound M))
    (cond (inside_net g) (cond (has g s) 0 3) 2) 1
