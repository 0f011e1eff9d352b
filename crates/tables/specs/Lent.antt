-- The store that lent tables hold.
use Rattle.model.specs.View.{View}
use Rattle.model.specs.Layout.{view_of, state_of}
use Rattle.model.specs.State.{State}
use Rattle.tables.specs.declared.lent.Tables.{Tables}

abbrev pub view_in : Tables → View
view_in tables = view_of tables.g tables.cells.now

abbrev pub state_in : Tables → State
state_in tables = state_of tables.g tables.cells.now
