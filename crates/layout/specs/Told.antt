-- What the rows of the search tell.
use Rattle.evidence.specs.Table.{Table}
use Rattle.layout.specs.declared.rows.Rows.{Rows}
use Rattle.layout.specs.Tables.{table_of}

-- The table of the rows.
abbrev pub told : Rows → Table
told rows = table_of rows.count rows.rows
