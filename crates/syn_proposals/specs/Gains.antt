-- Reports of what was gained.
use Rattle.std.specs.Prelude.{◌≡◌, ◌≤◌, Bool, true}
use Rattle.syn_proposals.specs.declared.gains.Report.{Report}

-- Where only what saves was applied, no more was applied than was gained.
abbrev pub IsGain : Bool → Report → Type 0
IsGain strict report = strict ≡ true → report.done ≤ report.gained
