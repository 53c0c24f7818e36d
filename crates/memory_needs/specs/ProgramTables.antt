-- What is found of a program once, for all its handler classes.
use Rattle.std.specs.Prelude.{◌≡◌, ◌≤◌, ◌+◌, ◌^◌}
use Rattle.directed_graphs.specs.Graphs.{rows_of, AreInOrder}
use Rattle.scj_tree.specs.Recursion.{joined_below, listed}
use Rattle.scj_model.specs.Code.{Code}
use Rattle.memory_needs.specs.declared.program_tables.Tables.{Tables}
use Rattle.memory_needs.specs.ClassShown.{is_point}
use Rattle.memory_needs.specs.Edges.{count, runs_here, runs_entered, edges_of_vertex}
use Rattle.memory_needs.specs.RowLists.{if_picked}
use Rattle.memory_needs.specs.Shown.{shown_at}
use Rattle.memory_needs.specs.Sites.{IsTable}
use Rattle.memory_needs.specs.Solved.{solved, zero_rows, AreCapped}

pub record AreTablesOf (code : Code) (tables : Tables) : Type 0 where
  pub few : count code ≤ 2 ^ 31
  pub here : IsTable (runs_here code) (count code) tables.here.items
  pub entered : IsTable (runs_entered code) (count code) tables.entered.items
  pub edges : IsTable (edges_of_vertex code) (count code + count code) tables.edges.items
  pub ordered : AreInOrder (rows_of tables.edges.items) tables.order.vertices.items tables.order.loops.items
  pub capped : AreCapped tables.needs.items (solved code tables.order.vertices.items (zero_rows code))
  pub shown : tables.shown.items ≡ listed (shown_at code tables.needs.items) (count code)
  pub points : tables.points.items
      ≡ joined_below (if_picked (is_point code tables.order.loops.items tables.shown.items)) (count code)
