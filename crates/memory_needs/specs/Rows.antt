-- What is told of a program: of each concrete handler class whether its private memory suffices, and how large a store
-- excludes StoreFull.
use Rattle.std.specs.Prelude.{◌≡◌, ℕ, ◌+◌, ◌*◌, Bool, true, false, ◌&&◌, List, map, filter, Option, Some, None, Contains}
use Rattle.scj_tree.specs.Heights.{highest}
use Rattle.scj_rules.specs.declared.views.Body.{Body}
use Rattle.scj_rules.specs.Words.{◌>>=◌}
use Rattle.scj_rules.specs.ClassRules.{numbers_from}
use Rattle.scj_rules.specs.Contexts.{Declarations}
use Rattle.scj_rules.specs.ScopeRules.{is_handler, is_mission}
use Rattle.scj_rules.specs.Types.{kind_is, is_concrete}
use Rattle.scj_rules.specs.Bodies.{safelet_class, size_of}
use Rattle.scj_model.specs.Code.{Code}
use Rattle.scj_model.specs.Memory.{rounded_up}
use Rattle.memory_needs.specs.declared.answers.BoundAnswer.{BoundAnswer}
use Rattle.memory_needs.specs.declared.answers.BoundAnswer.TheVariants.{Yes, No}
use Rattle.memory_needs.specs.declared.answers.BoundRow.{BoundRow}
use Rattle.memory_needs.specs.declared.answers.NoBound.{NoBound}
use Rattle.memory_needs.specs.declared.answers.NoBound.TheVariants.{Recursion}
use Rattle.memory_needs.specs.Reach.{handler_body}
use Rattle.memory_needs.specs.Need.{Table, AreNeeds}
use Rattle.memory_needs.specs.Room.{HasRoom}
use Rattle.memory_needs.specs.Causes.{storage, Shows, IsNowhere, IsFirstCause}

-- ---- the answer for a class

-- no cause is shown, and handleAsyncEvent needs so much
pub record Suffices (code : Code) (class : ℕ) (table : Table) (bytes : ℕ) : Type 0 where
  pub no_cause : (cause : NoBound) → IsNowhere (Shows code class table cause)
  pub body : Body
  pub is_body : handler_body code class ≡ Some body
  pub is_need : table body ≡ bytes

abbrev pub IsAnswerBy : Code → ℕ → Table → BoundAnswer → Type 0
IsAnswerBy code class table (Yes bytes) = Suffices code class table bytes
IsAnswerBy code class table (No cause at) = IsFirstCause code class table cause at

-- by the table of the Needs; where a body leads to itself nothing is asked of them
pub record IsAnswer (code : Code) (class : ℕ) (answer : BoundAnswer) : Type 0 where
  pub table : Table
  pub are_needs : IsNowhere (Shows code class table Recursion) → AreNeeds code class table
  pub is : IsAnswerBy code class table answer

-- ---- the rows

abbrev pub is_concrete_handler : Declarations → ℕ → Bool
is_concrete_handler p class = kind_is is_concrete p class && is_handler p class

-- in the order of the sources
unfoldable pub handler_classes : Declarations → List ℕ
handler_classes p = filter (is_concrete_handler p) (numbers_from 0 p.classes)

pub record AreRows (code : Code) (rows : List BoundRow) : Type 0 where
  pub of_handlers : map (λ (row : BoundRow). row.handler) rows ≡ handler_classes code.program
  pub are_answers : (row : BoundRow) → Contains rows row → IsAnswer code row.handler row.answer

-- ---- the store

-- the most jobs that are started at once, since each has a higher priority than those under it
abbrev pub most_started : ℕ
most_started = 28

abbrev pub rounded_or_0 : Option ℕ → ℕ
rounded_or_0 None = 0
rounded_or_0 (Some bytes) = rounded_up bytes

abbrev pub immortal_bytes : Declarations → ℕ
immortal_bytes p = rounded_or_0 (safelet_class p >>= size_of p)

abbrev pub is_concrete_mission : Declarations → ℕ → Bool
is_concrete_mission p class = kind_is is_concrete p class && is_mission p class

unfoldable pub mission_bytes : Declarations → ℕ
mission_bytes p =
    highest (λ class. rounded_or_0 (size_of p class)) (filter (is_concrete_mission p) (numbers_from 0 p.classes))

-- what a release of a handler class may have open, by what is told of the Room of handleAsyncEvent
abbrev pub release_bytes : Declarations → (ℕ → ℕ) → ℕ → ℕ
release_bytes p rooms class = rounded_or_0 (storage p class) + rooms class

unfoldable pub store_needed : Declarations → (ℕ → ℕ) → ℕ
store_needed p rooms =
    immortal_bytes p
    + (mission_bytes p + most_started * highest (release_bytes p rooms) (handler_classes p))

-- the Room of a class is that of its handleAsyncEvent
pub record IsRoom (code : Code) (class room : ℕ) : Type 0 where
  pub body : Body
  pub is_body : handler_body code class ≡ Some body
  pub is : HasRoom code body room

-- it is told where no row is No
abbrev pub is_no : BoundAnswer → Bool
is_no (Yes bytes) = false
is_no (No cause at) = true

abbrev pub AllSuffice : List BoundRow → Type 0
AllSuffice rows = (row : BoundRow) → Contains rows row → is_no row.answer ≡ false

pub record IsStoreNeeded (code : Code) (bytes : ℕ) : Type 0 where
  pub rooms : ℕ → ℕ
  pub are_rooms : (class : ℕ) → Contains (handler_classes code.program) class → IsRoom code class (rooms class)
  pub is : bytes ≡ store_needed code.program rooms

abbrev pub ReportsStore : Code → List BoundRow → Option ℕ → Type 0
ReportsStore code rows (Some bytes) = AllSuffice rows × IsStoreNeeded code bytes
ReportsStore code rows None = (row : BoundRow) × Contains rows row × (is_no row.answer ≡ true)
