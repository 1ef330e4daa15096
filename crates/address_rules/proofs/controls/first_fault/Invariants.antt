use Rattle.std.proofs.Common.{◌≡◌, drop}
use Rattle.std.specs.Prelude.{slice_get}
use Rattle.std.specs.List.{filter_map}
use Rattle.address_rules.specs.Files.{all_files, fault_in}
use Rattle.address_rules.proofs.controls.first_fault.Given as goal

abbrev pub invariant-loop-file : goal.invariant-loop-file
invariant-loop-file l = slice_get (filter_map (fault_in l.files) (drop l.file-index all_files)) 0 ≡ slice_get (filter_map (fault_in l.files) all_files) 0
