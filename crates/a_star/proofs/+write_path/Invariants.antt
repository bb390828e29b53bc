-- The measure of the recursion: how many arcs may still go back.
-- Assumes nothing.
use Rattle.a_star.proofs.+write_path.Given as goal

abbrev pub decreases-write_path : goal.decreases-write_path
decreases-write_path l = l.left
