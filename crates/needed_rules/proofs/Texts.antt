-- The texts of the programs, which begin alike. Printed by expected/check_programs.py.
use Rattle.std.specs.Prelude.{ℕ, List, ◌++◌, codes}

abbrev beginning : List ℕ
beginning =
    codes "class App implements Safelet {\n  public MissionSequencer getSequencer() { return new Seq(); }\n"
    ++ (codes "  public long immortalMemorySize() { return 400; }\n  public void initializeApplication() { }\n"
    ++ (codes "}\nclass Seq extends MissionSequencer {\n"
    ++ (codes "  Seq() { super(new PriorityParameters(5), new StorageParameters(0)); }\n"
    ++ (codes "  public Mission getNextMission() { return new Main(); }\n}\n"
    ++ (codes "@DefineScope(name=\"M\", parent=\"IMMORTAL\") class Main extends Mission {\n"
    ++ codes "  public long missionMemorySize() { return 200; }\n")))))

abbrev pub a2_class_text : List ℕ
a2_class_text =
    beginning
    ++ (codes "  public void initialize() { new Sub().keep(); }\n}\n"
    ++ (codes "@Scope(IMMORTAL) class Base { @RunsIn(CALLER) void keep() { Keep.last = this; } }\n"
    ++ codes "@Scope(\"M\") class Sub extends Base { }\nclass Keep { static Object last; }\n"))

abbrev pub a3_field_text : List ℕ
a3_field_text =
    beginning
    ++ (codes "  public void initialize() { new H(new Pump()).register(); }\n}\n"
    ++ (codes "@Scope(\"M\") class Pump { T last; }\n"
    ++ (codes "@Scope(\"M\") @DefineScope(name=\"P\", parent=\"M\") class H extends PeriodicEventHandler {\n"
    ++ (codes "  Pump p;\n  H(Pump a) {\n"
    ++ (codes "    super(new PriorityParameters(5), new PeriodicParameters(new RelativeTime(0, 0), new "
    ++ (codes "RelativeTime(1, 0)),\n        new StorageParameters(100));\n    p = a;\n  }\n"
    ++ codes "  public void handleAsyncEvent() { p.last = new T(); }\n}\n@Scope(\"P\") class T { }\n"))))))

abbrev pub a4_field_text : List ℕ
a4_field_text =
    beginning
    ++ (codes "  public void initialize() { new H(new Pump()).register(); }\n}\nclass Pump { T last; }\n"
    ++ (codes "@Scope(\"M\") @DefineScope(name=\"P\", parent=\"M\") class H extends PeriodicEventHandler {\n"
    ++ (codes "  Pump p;\n  H(Pump a) {\n"
    ++ (codes "    super(new PriorityParameters(5), new PeriodicParameters(new RelativeTime(0, 0), new "
    ++ (codes "RelativeTime(1, 0)),\n        new StorageParameters(100));\n    p = a;\n  }\n"
    ++ codes "  public void handleAsyncEvent() { p.last = new T(); }\n}\n@Scope(\"P\") class T { }\n")))))

abbrev pub a5_static_text : List ℕ
a5_static_text =
    beginning
    ++ (codes "  public void initialize() { Keep.made = new Made(); }\n}\n@Scope(\"M\") class Made { }\n"
    ++ codes "class Keep { static Made made; }\n")

abbrev pub a6_override_text : List ℕ
a6_override_text =
    beginning
    ++ (codes "  public void initialize() { Base b = new Sub(); b.keep(new Object()); }\n}\n"
    ++ (codes "class Base { void keep(Object o) { } }\n"
    ++ (codes "class Sub extends Base { void keep(@Scope(IMMORTAL) Object o) { Keep.last = o; } }\n"
    ++ codes "class Keep { static Object last; }\n")))

abbrev pub e10_array_text : List ℕ
e10_array_text =
    beginning
    ++ (codes "  public void initialize() { new H(new T[1]).register(); }\n}\n"
    ++ (codes "@Scope(\"M\") @DefineScope(name=\"P\", parent=\"M\") class H extends PeriodicEventHandler {\n"
    ++ (codes "  T[] all;\n  H(T[] a) {\n"
    ++ (codes "    super(new PriorityParameters(5), new PeriodicParameters(new RelativeTime(0, 0), new "
    ++ (codes "RelativeTime(1, 0)),\n        new StorageParameters(100));\n    all = a;\n  }\n"
    ++ codes "  public void handleAsyncEvent() { all[0] = new T(); }\n}\n@Scope(\"P\") class T { }\n")))))

abbrev pub e1_new_text : List ℕ
e1_new_text =
    beginning
    ++ (codes "  public void initialize() { Keep.made = new Made(); }\n}\n@Scope(IMMORTAL) class Made { }\n"
    ++ codes "class Keep { static Made made; }\n")

abbrev pub e2_call_text : List ℕ
e2_call_text =
    beginning
    ++ (codes "  public void initialize() { put(); }\n  void put() { Keep.last = new Object(); }\n}\n"
    ++ codes "class Keep { static Object last; }\n")

abbrev pub e3_argument_text : List ℕ
e3_argument_text =
    beginning
    ++ (codes "  public void initialize() { Keep.keep(new Object()); }\n}\nclass Keep {\n"
    ++ codes "  static Object last;\n  static void keep(@Scope(IMMORTAL) Object o) { last = o; }\n}\n")

abbrev pub e4_assign_text : List ℕ
e4_assign_text =
    beginning
    ++ (codes "  public void initialize() { @Scope(IMMORTAL) Object o = new Object(); Keep.last = o; }\n}\n"
    ++ codes "class Keep { static Object last; }\n")

abbrev pub e5_store_text : List ℕ
e5_store_text =
    beginning
    ++ (codes "  public void initialize() { Keep.last = new Object(); }\n}\n"
    ++ codes "class Keep { static Object last; }\n")

abbrev pub e5_undone_text : List ℕ
e5_undone_text =
    beginning
    ++ (codes "  public void initialize() { new H(new Node()).register(); }\n}\nclass Node {\n  Node next;\n"
    ++ (codes "  static void tie(@Scope(UNKNOWN) Node a, @Scope(UNKNOWN) Node b, @Scope(UNKNOWN) Node c) {\n"
    ++ (codes "    if (ManagedMemory.allocInSame(a, b)) { b = c; a.next = b; }\n  }\n}\n"
    ++ (codes "@Scope(\"M\") @DefineScope(name=\"P\", parent=\"M\") class H extends PeriodicEventHandler {\n"
    ++ (codes "  Node list;\n  H(Node a) {\n"
    ++ (codes "    super(new PriorityParameters(5), new PeriodicParameters(new RelativeTime(0, 0), new "
    ++ (codes "RelativeTime(1, 0)),\n        new StorageParameters(100));\n    list = a;\n  }\n"
    ++ codes "  public void handleAsyncEvent() { Node.tie(list, list, new Node()); }\n}\n")))))))

abbrev pub e5_unguarded_text : List ℕ
e5_unguarded_text =
    beginning
    ++ (codes "  public void initialize() { new H(new Node()).register(); }\n}\nclass Node {\n  Node next;\n"
    ++ (codes "  static void tie(@Scope(UNKNOWN) Node a, @Scope(UNKNOWN) Node b) { a.next = b; }\n}\n"
    ++ (codes "@Scope(\"M\") @DefineScope(name=\"P\", parent=\"M\") class H extends PeriodicEventHandler {\n"
    ++ (codes "  Node list;\n  H(Node a) {\n"
    ++ (codes "    super(new PriorityParameters(5), new PeriodicParameters(new RelativeTime(0, 0), new "
    ++ (codes "RelativeTime(1, 0)),\n        new StorageParameters(100));\n    list = a;\n  }\n"
    ++ codes "  public void handleAsyncEvent() { Node.tie(list, new Node()); }\n}\n"))))))

abbrev pub e6_return_text : List ℕ
e6_return_text =
    beginning
    ++ (codes "  public void initialize() { Keep.last = give(); }\n"
    ++ (codes "  @RunsIn(\"M\") @Scope(IMMORTAL) Object give() { return new Object(); }\n}\n"
    ++ codes "class Keep { static Object last; }\n"))

abbrev pub e7_enter_text : List ℕ
e7_enter_text =
    beginning
    ++ (codes "  public void initialize() { ManagedMemory.enterPrivateMemory(8, new Job()); }\n}\n"
    ++ codes "class Job implements Runnable { public void run() { } }\n")

abbrev pub e8_execute_text : List ℕ
e8_execute_text =
    beginning
    ++ (codes "  public void initialize() { ManagedMemory.executeInAreaOf(this, new Job(new Object())); }\n}\n"
    ++ (codes "@Scope(\"M\") class Job implements Runnable {\n  Object o;\n  Job(Object a) { o = a; }\n"
    ++ codes "  public void run() { new Box(o); }\n}\nclass Box { Object o; Box(Object a) { o = a; } }\n"))
