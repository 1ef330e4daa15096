-- The texts of the channels are channel files, with a record to do for each of their recipients.
use Rattle.std.specs.Prelude.{◌≡◌, ℕ, List, All, map, false}
use Rattle.address_rules.specs.declared.controls.Controls.{Controls}
use Rattle.address_rules.specs.Nuls.{HaveNoNul}
use Rattle.envelope_records.specs.declared.channel.Record.{Record}
use Rattle.envelope_records.specs.Records.{AreRecords}
use Rattle.todo_pass.specs.Sorting.{locals_of, remotes_of, sorted_of}
use Rattle.todo_pass.specs.Todo.{Todo, IsTodo}

-- the text is records, one for each of these addresses in their order, and none of them done
pub record IsToDo (text : List ℕ) (addresses : List (List ℕ)) : Type 0 where
  pub records : List Record
  pub read : AreRecords text records
  pub undone : All (λ it. it.done ≡ false) records
  pub addresses_are : map (λ it. it.address) records ≡ addresses

-- Whatever todo text was read: the controls have no NUL, as all that are read, and an address in it has none.
abbrev pub ChannelsAreRecords : Type 0
ChannelsAreRecords = (controls : Controls) (bytes : List ℕ) (it : Todo) → HaveNoNul controls → IsTodo bytes it
    → IsToDo (sorted_of controls it).local (locals_of controls it.recipients)
    × IsToDo (sorted_of controls it).remote (remotes_of controls it.recipients)
