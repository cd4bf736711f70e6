-- What the workers have noted may be read by several threads.
use denote.Param.Send.{IsSync, sendable}
use Rattle.req_table.proofs.table.Table.TheSendSync as table
use Rattle.req_table.proofs.spare_tables.SpareTables.TheSendSync as spare_tables
use Rattle.req_table.proofs.children.Rows.TheSendSync as rows
use Rattle.expand_work.proofs.lists.PlacesBySender.TheSendSync as noted
use Rattle.expand_work.proofs.bundle_pool.BundlePool.TheSendSync as spare
use Rattle.expand_work.specs.contracts.parts.WorkerNotes as WorkerNotes
use Rattle.expand_work.specs.contracts.space.WorkerMemory as WorkerMemory
use Rattle.expand_work.specs.contracts.tables.LevelTable as LevelTable
use Rattle.expand_work.specs.contracts.tables.Tables as Tables
use Rattle.std.proofs.Crossing.{crosses, frees}

level_sync : IsSync LevelTable.the_row
level_sync = search (sendable, table.the_sync, crosses, frees) depth 80 fits 20000

tables_sync : IsSync Tables.the_row
tables_sync = search (sendable, level_sync, spare_tables.the_sync, crosses, frees) depth 80 fits 20000

memory_sync : IsSync WorkerMemory.the_row
memory_sync = search (sendable, tables_sync, rows.the_sync, noted.the_sync, spare.the_sync, crosses, frees) depth 80 fits 20000

pub notes_sync : IsSync WorkerNotes.the_row
notes_sync = search (sendable, memory_sync, crosses, frees) depth 80 fits 20000
