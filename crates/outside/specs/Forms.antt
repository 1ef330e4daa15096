-- Forms in memory of what lies outside a program: what each holds.
use Rattle.std.specs.Prelude.{◌≡◌, ◌⊎◌, ℕ, zero, suc, ◌+◌, ◌-◌, ◌^◌, ◌<◌, ◌≤◌, min, max, List, [], ◌∷◌, ◌++◌, length, take, drop, slice_get, slice_set, slice_index_or, flat_map, Option, None, Some, IsSomeAnd, Bool, true, false, if◌then◌else◌, Contains}
use Rattle.std.specs.Option.{option_map}
use Rattle.mail_bytes.specs.declared.moments.TheConstants.{LAST_MOMENT}
use Rattle.mail_bytes.specs.Told.{raised}
use Rattle.outside.specs.declared.spawner.Started.{Started}
use Rattle.outside.specs.declared.spawner.Started.TheVariants as outcome
use Rattle.outside.specs.declared.spawner.Status.{Status}
use Rattle.outside.specs.declared.spawner.Status.TheVariants as status
use Rattle.outside.specs.declared.spawner.MemChild.{MemChild}
use Rattle.outside.specs.Children.{Arrival}

-- The calls of a form so far, the numbers of those that fail, and how many have failed.
pub record FailurePlan : Type 0 where
  pub calls : ℕ
  pub failing : List ℕ
  pub faults : ℕ

abbrev pub new_plan : List ℕ → FailurePlan
new_plan failing = record { calls = 0; failing = failing; faults = 0 }

-- the next call is one of those that fail
abbrev pub FailsNext : FailurePlan → Type 0
FailsNext p = Contains p.failing (raised p.calls)

-- one call more, which may have failed
abbrev pub after_call : Bool → FailurePlan → FailurePlan
after_call fails p = record {
  calls = raised p.calls;
  failing = p.failing;
  faults = (if fails then raised p.faults else p.faults);
}

-- one failure more
abbrev pub after_failure : FailurePlan → FailurePlan
after_failure p = record { calls = p.calls; failing = p.failing; faults = raised p.faults }

-- what is left of lists one after another, from this list on, without so many of its first items
abbrev pub rest_from : {A : Type 0} → List (List A) → ℕ → ℕ → List A
rest_from pieces at given = drop given (flat_map (λ p. p) (drop at pieces))

-- no more was given of this list than it has
abbrev pub IsWithin : {A : Type 0} → List (List A) → ℕ → ℕ → Type 0
IsWithin pieces at given = given ≤ length (slice_index_or pieces at [])

-- a source: what it has still to give, whether it has told its end, and which calls fail
pub record SourceForm : Type 0 where
  pub left : List ℕ
  pub ended : Bool
  pub plan : FailurePlan

-- bytes that were taken, and for how many more there is room
pub record Bounded : Type 0 where
  pub bytes : List ℕ
  pub room : ℕ

-- as many of these bytes were taken as there was room for
abbrev pub filled : List ℕ → Bounded → Bounded
filled more b = record { bytes = b.bytes ++ take b.room more; room = b.room - length more }

-- there is no more room
abbrev pub without_room : Bounded → Bounded
without_room b = record { bytes = b.bytes; room = 0 }

-- a sink: what it took, for how many bytes more it has room, and which calls fail
pub record SinkForm : Type 0 where
  pub taken : List ℕ
  pub room : ℕ
  pub plan : FailurePlan

-- a call was counted that was planned to fail: it took nothing
abbrev pub failed_sink : SinkForm → SinkForm
failed_sink s = record { taken = s.taken; room = s.room; plan = after_call true s.plan }

-- a call was counted that took as many of these bytes as there was room for
abbrev pub filled_sink : List ℕ → Bool → SinkForm → SinkForm
filled_sink bytes fails s = record {
  taken = s.taken ++ take s.room bytes;
  room = s.room - length bytes;
  plan = after_call fails s.plan;
}

-- a clock: the moments still to come, the last one that it told, and the number of its process
pub record ClockForm : Type 0 where
  pub ahead : List ℕ
  pub last : ℕ
  pub pid : ℕ

-- it told the next moment, cut to the last one of all, and no earlier one than before
abbrev pub next_told_of : List ℕ → ℕ → ℕ → ClockForm
next_told_of [] last pid = record { ahead = []; last = last; pid = pid }
next_told_of (m ∷ ahead) last pid = record { ahead = ahead; last = max last (min m LAST_MOMENT); pid = pid }

abbrev pub next_told : ClockForm → ClockForm
next_told k = next_told_of k.ahead k.last k.pid

-- posts: what is waiting, and how many channels could not be read
pub record PostsForm : Type 0 where
  pub waiting : List Arrival
  pub faults : ℕ

-- A child that was started: its words, what it was fed, whether its input was ended, and how it ends.
pub record ChildForm : Type 0 where
  pub words : List (List ℕ)
  pub fed : Bounded
  pub is_finished : Bool
  pub status : Status

-- as it is planned, with these words
abbrev pub new_child : List (List ℕ) → MemChild → ChildForm
new_child words planned = record {
  words = words;
  fed = record { bytes = []; room = planned.room };
  is_finished = false;
  status = planned.status;
}

-- it took as many bytes as it has room for
abbrev pub fed_child : List ℕ → ChildForm → ChildForm
fed_child bytes c = record { words = c.words; fed = filled bytes c.fed; is_finished = c.is_finished; status = c.status }

-- its input was ended, and it takes no more
abbrev pub finished_child : ChildForm → ChildForm
finished_child c = record { words = c.words; fed = without_room c.fed; is_finished = true; status = c.status }

-- a spawner: all its children, those of them that were started, and which calls fail
pub record SpawnForm : Type 0 where
  pub all : List MemChild
  pub started : List ChildForm
  pub plan : FailurePlan

-- the channels from 1 on
abbrev pub channels : ℕ → List ℕ
channels zero = []
channels (suc n) = channels n ++ suc n ∷ []

-- the child of a channel, if it was started
abbrev pub child_at : List ChildForm → ℕ → Option ChildForm
child_at started zero = None
child_at started (suc place) = slice_get started place

abbrev pub child_of : SpawnForm → ℕ → Option ChildForm
child_of s chan = child_at s.started chan

-- the child of a channel was changed, if it was started
abbrev pub with_child : List ChildForm → ℕ → Option ChildForm → List ChildForm
with_child started place None = started
with_child started place (Some c) = slice_set started place c

abbrev pub changed_at : List ChildForm → ℕ → (ChildForm → ChildForm) → List ChildForm
changed_at started zero change = started
changed_at started (suc place) change = with_child started place (option_map change (slice_get started place))

-- a call of a spawner was counted, and did nothing else
abbrev pub asked_spawn : SpawnForm → SpawnForm
asked_spawn s = record { all = s.all; started = s.started; plan = after_call false s.plan }

-- the same of a call that failed
abbrev pub failed_spawn : SpawnForm → SpawnForm
failed_spawn s = record { all = s.all; started = s.started; plan = after_call true s.plan }

-- one child more was started
abbrev pub with_started : ChildForm → SpawnForm → SpawnForm
with_started c s = record { all = s.all; started = s.started ++ c ∷ []; plan = s.plan }

-- the child that is started next, and its channel
abbrev pub IsNextChild : SpawnForm → MemChild → ℕ → Type 0
IsNextChild s child chan = (slice_get s.all (length s.started) ≡ Some child) × (chan ≡ length s.started + 1) × (chan < 2 ^ 32)

-- there is no next child, or no next channel
abbrev pub NoneLeft : SpawnForm → Type 0
NoneLeft s = (length s.all ≤ length s.started) ⊎ (2 ^ 32 ≤ length s.started + 1)

-- The next child was started with these words. A start that failed, or found no memory, did nothing else.
abbrev pub StartsNext : List (List ℕ) → SpawnForm → Started → SpawnForm → Type 0
StartsNext words old (outcome.Chan chan pid) new =
    IsSomeAnd (slice_get old.all (length old.started)) (λ child. (child.pid ≡ pid)
    × (new ≡ with_started (new_child words child) (asked_spawn old))) × (chan ≡ length old.started + 1)
StartsNext words old outcome.Failed new = new ≡ failed_spawn old
StartsNext words old outcome.Memory new = new ≡ asked_spawn old

-- there is no child, or it hasn't room for all of these bytes
abbrev pub LacksRoom : Option ChildForm → List ℕ → Type 0
LacksRoom None bytes = Unit {0}
LacksRoom (Some c) bytes = c.fed.room < length bytes

-- the child of a channel was fed, if there is one, and the call counted
abbrev pub fed_spawn : ℕ → List ℕ → Bool → SpawnForm → SpawnForm
fed_spawn chan bytes fails s = record {
  all = s.all;
  started = changed_at s.started chan (fed_child bytes);
  plan = after_call fails s.plan;
}

-- the input of the child of a channel was ended, if there is one
abbrev pub finished_spawn : ℕ → SpawnForm → SpawnForm
finished_spawn chan s = record { all = s.all; started = changed_at s.started chan finished_child; plan = s.plan }

-- how a child ended, and what a spawner holds then
abbrev pub child_status : Option ChildForm → Status
child_status None = status.Failed
child_status (Some child) = child.status

abbrev pub after_status : SpawnForm → Status → SpawnForm
after_status s status.Failed = failed_spawn s
after_status s other = asked_spawn s
