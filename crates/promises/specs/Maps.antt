-- The maps that demand 3 speaks of: what a question sees after a feed, and the map of the feed's last accepted records.
-- Assumes nothing.
use Rattle.std.specs.Prelude.{length}
use Rattle.table.specs.Feeds.{Kind, Feed, fed, lasts, accepted_by, lasts_of}
use Rattle.net.specs.Net.{Net}

module _ {C R S : Type 0} (k : Kind C R S) where
  -- the map that a question is lent after the feed:
  -- the feed's bound, direction and marks, with the table and the count that its last put left
  abbrev pub map_after : Feed R S → Net C
  map_after f = record {
    bound = f.bound;
    count = k.count (fed k f);
    directed = f.directed;
    room = k.room (fed k f);
    marks = f.marks;
    table = k.places (fed k f);
  }

  -- the map that holds exactly the last accepted record of each link, in the order in which they came: the feed's table has no part in it
  abbrev pub map_of_lasts : Feed R S → Net C
  map_of_lasts f = record {
    bound = f.bound;
    count = length (lasts_of k f);
    directed = f.directed;
    room = length (lasts_of k f);
    marks = f.marks;
    table = lasts f.directed (accepted_by k f);
  }
