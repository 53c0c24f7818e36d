-- The generated program of a size, and its plan (this project's profile): a periodic handler whose release makes an
-- object of each of so many classes, and prints a number for each.
use Rattle.std.specs.Prelude.{◌≡◌, ℕ, zero, suc, ◌+◌, ◌*◌, ◌<◌, ◌⊎◌, List, [], ◌++◌, codes, decimal}
use Rattle.source_gen.specs.declared.sizes.GenError.{GenError}
use Rattle.source_gen.specs.declared.sizes.GenError.TheVariants.{Size, Memory}

-- ---- the source

-- a safelet with a sequencer that gives one mission, `Main`
unfoldable pub safelet_lines : List ℕ
safelet_lines =
    codes "class App implements Safelet {\n"
    ++ (codes "  public MissionSequencer getSequencer() { return new Seq(); }\n"
    ++ (codes "  public long immortalMemorySize() { return 400; }\n"
    ++ (codes "  public void initializeApplication() { }\n"
    ++ (codes "}\n"
    ++ (codes "class Seq extends MissionSequencer {\n"
    ++ (codes "  int n;\n"
    ++ (codes "  Seq() { super(new PriorityParameters(5), new StorageParameters(0)); }\n"
    ++ (codes "  public Mission getNextMission() {\n"
    ++ (codes "    if (n > 0) return null;\n"
    ++ (codes "    n = n + 1;\n"
    ++ (codes "    return new Main();\n"
    ++ (codes "  }\n" ++ codes "}\n"))))))))))))

-- the mission with its one handler
unfoldable pub mission_lines : List ℕ
mission_lines =
    codes "@DefineScope(name=\"M\", parent=\"IMMORTAL\") class Main extends Mission {\n"
    ++ (codes "public long missionMemorySize() { return 48; }\n"
    ++ (codes "public void initialize() { new Work().register(); }\n" ++ codes "}\n"))

-- the handler up to the number of bytes of its releases' memory
unfoldable pub handler_head : List ℕ
handler_head =
    codes "@Scope(\"M\") @DefineScope(name=\"P\", parent=\"M\") class Work extends PeriodicEventHandler {\n"
    ++ (codes "Work() { super(new PriorityParameters(10), "
    ++ (codes "new PeriodicParameters(new RelativeTime(0, 0), new RelativeTime(5, 0)), "
    ++ codes "new StorageParameters("))

-- the handler up to the statements of its release. The release's memory has room for an object of one field of each
-- class: 24 bytes an object
unfoldable pub handler_lines : ℕ → List ℕ
handler_lines n = handler_head ++ (decimal (24 * n) ++ codes ")); }\npublic void handleAsyncEvent() {\n")

-- the statement that prints the number of a class's object
unfoldable pub print_line : ℕ → List ℕ
print_line i =
    codes "Trace.print(\"d" ++ (decimal i ++ (codes "\", new D" ++ (decimal i ++ (codes "(" ++ (decimal i
    ++ codes ").get());\n")))))

-- the class of a number
unfoldable pub class_line : ℕ → List ℕ
class_line i =
    codes "class D" ++ (decimal i ++ (codes " { int v; D" ++ (decimal i
    ++ codes "(int a) { v = a; } int get() { return v + 1; } }\n")))

-- the lines of the numbers from 1 to n
unfoldable pub up_to : (ℕ → List ℕ) → ℕ → List ℕ
up_to line zero = []
up_to line (suc n) = up_to line n ++ line (suc n)

unfoldable pub source_of : ℕ → List ℕ
source_of n =
    safelet_lines ++ (mission_lines ++ (handler_lines n
    ++ (up_to print_line n ++ (codes "}\n}\n" ++ up_to class_line n))))

-- ---- the plan: so many units, and exactly the store of the immortal memory, the mission's and one release's

unfoldable pub plan_of : ℕ → List ℕ
plan_of n = codes "version = 1\nunits = 50000\nstore = " ++ (decimal (448 + 24 * n) ++ codes "\n")

-- ---- the sizes

-- there is no program of the size
abbrev pub IsOutside : ℕ → Type 0
IsOutside n = (n < 1) ⊎ (250 < n)

-- the size that is refused is the one that was asked for
abbrev pub ReportsOwnSize : ℕ → GenError → Type 0
ReportsOwnSize n (Size m) = m ≡ n
ReportsOwnSize n Memory = Unit {0}
