-- What stays as it is tells what it told.
use Rattle.std.specs.Prelude.{◌≡◌, ◌⊎◌, ℕ, List, Bool, Option, Some, None}
use Rattle.std.proofs.Common.{ap, inl, inr}
use Rattle.call_fs.specs.Disk.{Disk}
use Rattle.call_fs.specs.declared.calls.Recorded.{Recorded}
use Rattle.outside.specs.Children.{Arrival, Posted, SpawnCall}
use Rattle.mail_bytes.specs.Told.{OnTold}
use Rattle.top_call.specs.Lent.{PostsLent, SinkLent, SourceLent, SpawnerLent}

abbrev source : {M : Type 0} → (M → Option (List ℕ)) → (M → Option Bool) → (M → ℕ) → M → SourceLent
source left ended faults m = record { left = left m; ended = ended m; faults = faults m }

pub source_left : {M : Type 0} (left : M → Option (List ℕ)) (ended : M → Option Bool) (faults : M → ℕ) (old new : M) → new ≡ old
    → source left ended faults new ≡ source left ended faults old
source_left left ended faults old new e = ap (source left ended faults) e

abbrev sink : {O : Type 0} → (O → Option (List ℕ)) → (O → ℕ) → O → SinkLent
sink taken faults o = record { taken = taken o; faults = faults o }

pub sink_left : {O : Type 0} (taken : O → Option (List ℕ)) (faults : O → ℕ) (old new : O) → new ≡ old → sink taken faults new ≡ sink taken faults old
sink_left taken faults old new e = ap (sink taken faults) e

abbrev posts : {P : Type 0} → (P → Option (List Arrival)) → (P → Option (List Posted)) → (P → ℕ) → P → PostsLent
posts waiting asked faults p = record { waiting = waiting p; asked = asked p; faults = faults p }

pub posts_left : {P : Type 0} (waiting : P → Option (List Arrival)) (asked : P → Option (List Posted)) (faults : P → ℕ) (old new : P) → new ≡ old
    → posts waiting asked faults new ≡ posts waiting asked faults old
posts_left waiting asked faults old new e = ap (posts waiting asked faults) e

abbrev spawner : {S : Type 0} → (S → List ℕ) → (S → Option (List SpawnCall)) → (S → ℕ) → S → SpawnerLent
spawner children calls faults s = record { children = children s; calls = calls s; faults = faults s }

pub spawner_left : {S : Type 0} (children : S → List ℕ) (calls : S → Option (List SpawnCall)) (faults : S → ℕ) (old new : S) → new ≡ old
    → spawner children calls faults new ≡ spawner children calls faults old
spawner_left children calls faults old new e = ap (spawner children calls faults) e

pub disk_left : {D : Type 0} (disk : D → Option Disk) (calls : D → Option (List Recorded)) (faults : D → ℕ) (old new : D) → new ≡ old
    → (disk new ≡ disk old) × (calls new ≡ calls old) × (faults new ≡ faults old)
disk_left disk calls faults old new e = (ap disk e, ap calls e, ap faults e)

pub clock_left : {K : Type 0} (calls : K → Option (List ℕ)) (last : K → ℕ) (old new : K) → new ≡ old → (calls new ≡ calls old) × (last new ≡ last old)
clock_left calls last old new e = (ap calls e, ap last e)

-- what holds of it if it tells may be said weaker
pub on_told_weaker : {X : Type 0} (a : Option X) {P Q : X → Type 0} → ((x : X) → P x → Q x) → OnTold a P → OnTold a Q
on_told_weaker (Some x) f m = f x m
on_told_weaker None f m = m

-- of a choice the first may be said weaker
pub first_weaker : {A B C : Type 0} → (A → B) → A ⊎ C → B ⊎ C
first_weaker f (inl a) = inl (f a)
first_weaker f (inr c) = inr c
