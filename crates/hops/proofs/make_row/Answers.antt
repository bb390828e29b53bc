-- `hops::make_row` meets its contract.
-- Assumes nothing.
use Rattle.hops.proofs.Cells.{fresh, row_made}
use Rattle.hops.proofs.make_row.Goals as goal

pub search-requires : goal.search-requires
search-requires c = fresh c.requires c.fill.ensures

pub returns : goal.returns
returns c = row_made c.requires c.fill.ensures c.search.ensures c.show_row.ensures
