-- The text of a report.
use Rattle.std.specs.Prelude.{ℕ, List, [], ◌++◌, length, codes, decimal, slice_index_or, flat_map}
use Rattle.scj_base.specs.declared.findings.Found.{Found}
use Rattle.scj_base.specs.Rule.{name_of, text_of}

-- a finding's line: file, line, column, rule and what its break is called
abbrev pub finding_line : List (List ℕ) → Found → List ℕ
finding_line names found =
    slice_index_or names found.pos.file []
    ++ (codes ":" ++ (decimal found.pos.line
    ++ (codes ":" ++ (decimal found.pos.col
    ++ (codes ": " ++ (name_of found.rule
    ++ (codes " " ++ (text_of found.rule ++ codes "\n"))))))))

-- the lines of findings, in their order
abbrev pub finding_lines : List (List ℕ) → List Found → List ℕ
finding_lines names found = flat_map (finding_line names) found

-- the line that ends a report of so many findings
abbrev pub count_line : ℕ → List ℕ
count_line count = codes "refused " ++ (decimal count ++ codes "\n")

-- a report over the files of these names
unfoldable pub report_text : List (List ℕ) → List Found → List ℕ
report_text names found = finding_lines names found ++ count_line (length found)
