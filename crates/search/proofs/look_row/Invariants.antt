-- `search::look_row` meets its contract.
-- The loop's invariant is the record `Row` of turns: the arcs before place i are looked at, and what the lists say is what the pending bag makes of them, the
-- distance of u being the one read first. A bad cost stops the row; any other arc is one look more; at the end of the row the turn is done.
-- Assumes nothing.
use Rattle.rows.specs.Rows.{neighbours_in}
use Rattle.turns.specs.Kind.{ordered}
use Rattle.turns.specs.Row.{Row}
use Rattle.search.specs.Lists.{memory_in, SameMemory}
use Rattle.search.proofs.look_row.Given as goal

abbrev pub invariant-loop-i : goal.invariant-loop-i
invariant-loop-i g l =
    Row (ordered g.R.Key.Key.kind (g.R.Rule.kind l.rule)) l.m (neighbours_in l.rows) l.u l.d l.i l.size (memory_in l.initial.memory) (memory_in l.memory)
    × SameMemory l.initial.memory l.memory
