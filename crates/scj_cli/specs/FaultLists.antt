-- The text of a list of faults that are certain.
use Rattle.std.specs.Prelude.{ℕ, List, [], ◌++◌, length, codes, decimal, slice_index_or, flat_map}
use Rattle.scj_base.specs.RunFault.{text_of}
use Rattle.certain_faults.specs.declared.found.CertainFault.{CertainFault}

-- the line of a fault: file, line, column and its name
abbrev pub fault_line : List (List ℕ) → CertainFault → List ℕ
fault_line names found =
    slice_index_or names found.pos.file []
    ++ (codes ":" ++ (decimal found.pos.line
    ++ (codes ":" ++ (decimal found.pos.col
    ++ (codes ": " ++ (text_of found.fault ++ codes "\n"))))))

-- the lines of faults, in their order
abbrev pub fault_lines : List (List ℕ) → List CertainFault → List ℕ
fault_lines names faults = flat_map (fault_line names) faults

-- the line that ends a list of so many faults
abbrev pub fault_count_line : ℕ → List ℕ
fault_count_line count = codes "faults " ++ (decimal count ++ codes "\n")

-- a list over the files of these names
unfoldable pub fault_list : List (List ℕ) → List CertainFault → List ℕ
fault_list names faults = fault_lines names faults ++ fault_count_line (length faults)
