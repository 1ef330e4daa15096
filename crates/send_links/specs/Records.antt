-- What a channel file says, as a function of its bytes.
use Rattle.std.specs.Prelude.{ℕ, ◌+◌, List, [], ◌∷◌, ◌++◌, Bool, true, false, Option, Some, None, if◌then◌else◌, ◌==◌}
use Rattle.std.specs.Option.{option_map}
use Rattle.envelope_records.specs.declared.channel.Record.{Record}

-- where the reading of its records stands: before a record, or in one, with its letter, its place and the address so far
pub data Within : Type 0 where
  Before : Within
  In : (done : Bool) (place : ℕ) (address : List ℕ) → Within

abbrev pub begin_at : ℕ → ℕ → Option Within
begin_at b place = if b == 84 then Some (In false place []) else (if b == 68 then Some (In true place []) else None)

abbrev pub and_then : Option Within → (Within → Option (List Record)) → Option (List Record)
and_then None rest = None
and_then (Some w) rest = rest w

-- the records of the rest, which begins at this place
abbrev pub records_from : List ℕ → ℕ → Within → Option (List Record)
records_from [] at Before = Some []
records_from [] at (In done place address) = None
records_from (b ∷ bs) at Before = and_then (begin_at b at) (records_from bs (at + 1))
records_from (b ∷ bs) at (In done place address) =
    if b == 0 then option_map (λ rs. (record { done = done; place = place; address = address }) ∷ rs) (records_from bs (at + 1) Before)
    else records_from bs (at + 1) (In done place (address ++ b ∷ []))

-- Its records, if it has records alone: each is `T` or `D`, an address, NUL.
abbrev pub records_of : List ℕ → Option (List Record)
records_of bytes = records_from bytes 0 Before
