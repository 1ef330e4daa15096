-- Of which facts a settled state comes.
use Rattle.std.proofs.Common.{◌≡◌, ◌⊎◌, ℕ, ◌<◌, List, inl, inr, Bool, true, false, not, ◌&&◌, ◌||◌, Option, Some, None, refl, sym, subst, arith}
use Rattle.std.specs.Prelude.{Contains, is_some, nat_le}
use Rattle.std.proofs.lemmas.Bool.{le-leb}
use Rattle.std.proofs.lemmas.List.Elements.{All-contains}
use Rattle.call_fs.specs.Disk.{Disk}
use Rattle.call_fs.specs.declared.past.Own.{Own}
use Rattle.call_fs.specs.declared.program.Ready.{Ready}
use Rattle.queue_paths.specs.Names.{path}
use Rattle.queue_paths.specs.Names.Name.{Of}
use Rattle.queue_paths.specs.Names.Part.{Bounce, Info, Local as LocalFile, Mess, Remote as RemoteFile}
use Rattle.queue_states.specs.declared.state.State.{State as Named}
use Rattle.queue_states.specs.declared.state.State.TheVariants.{S1, S2, S3, S4, S5, Other}
use Rattle.queue_states.specs.States.{is_there, state_by, state_of, is_in_intd, is_in_todo}
use Rattle.retry_schedule.specs.Retry.{next_retry}
use Rattle.send_known.specs.declared.channel.Channel.{Channel}
use Rattle.send_known.specs.declared.channel.Channel.TheVariants.{Local, Remote}
use Rattle.send_jobs.specs.Channels.{skip_of}
use Rattle.send_jobs.specs.Tries.{due_on}
use Rattle.send_known.specs.declared.known.Known.{Known}
use Rattle.send_known.specs.Known.{first_idle, is_idle}
use Rattle.send_runs.specs.Rising.{IsLeastIdle}
use Rattle.send_runs.proofs.Rising.{known_numbers_rise}
use Rattle.retry_law.specs.Retries.{has_file}
use Rattle.retry_law.specs.Tried.{tried_in}
use Rattle.mail_world.specs.History.{State}
use Rattle.settle_law.specs.Settled.{HasUndone, IsTriedLater, WaitsForRetry}
use Rattle.settle_law.specs.Suffices.{HasRest, IsKnown, desk_of}
use Rattle.settle_law.specs.inside.Steps.{RestsSuffice}
use Rattle.settle_law.proofs.FreeChannels.{rests_free}

-- a message that isn't to be finished, and whose finish wasn't put off, has a channel file
some_file : (now : ℕ) (k : Known) → k.finish_at ≡ 0 → is_idle now k ≡ false → (c : Channel) × (has_file c k ≡ true)
some_file now k at e = by_flags (nat_le k.finish_at now) k.local k.remote (le-leb k.finish_at now (omega (arith, at))) refl refl e
  where
    by_flags : (a l r : Bool) → a ≡ true → k.local ≡ l → k.remote ≡ r → a && not (l || r) ≡ false → (c : Channel) × (has_file c k ≡ true)
    by_flags a true r ta tl tr eq = (Local, tl)
    by_flags a false true ta tl tr eq = (Remote, tr)
    by_flags true false false ta tl tr eq = absurd (cc)
    by_flags false false false ta tl tr eq = absurd (cc)

-- one that is preprocessed has an info file
has_info : (mess intd todo info local remote bounce : Bool) → state_by mess intd todo info local remote bounce ≡ S5 → info ≡ true
has_info false false false false false false false e = absurd (cc)
has_info true false false false false false false e = absurd (cc)
has_info true true false false false false false e = absurd (cc)
has_info true intd true info local remote false e = absurd (cc)
has_info true false false true local remote bounce e = refl
has_info mess intd todo info local remote bounce e = absurd (cc)

some_of : (o : Option ℕ) → is_some o ≡ true → (i : ℕ) × (o ≡ Some i)
some_of None e = absurd (cc)
some_of (Some i) e = (i, refl)

info_of : (d : Disk) (n : ℕ) → state_of d n ≡ S5 → (i : ℕ) × (d.names (path (Of Info n)) ≡ Some i)
info_of d n e = some_of (d.names (path (Of Info n)))
    (has_info (is_there d Mess n) (is_in_intd d n) (is_in_todo d n) (is_there d Info n) (is_there d LocalFile n) (is_there d RemoteFile n) (is_there d Bounce n) e)

module _ (s : State) (past : List Own) (ready : Ready) (h : HasRest s past ready) where
  -- all that is due is due later
  later : (c : Channel) (k : Known) (due : ℕ) → Contains (due_on c (desk_of past).book.messages) (due, k.n) → s.now < due
  later c k due entry =
      let rest = rests_free (desk_of past) s.now ready c h.rests (h.slots c) (h.free c) in
      All-contains (λ (e : ℕ × ℕ). s.now < e.0) (due_on c (desk_of past).book.messages) (due, k.n) (rest.1 ((known_numbers_rise None past).due c).order) entry

  -- none that is known is to be finished
  unfinished : (k : Known) → IsKnown past k → is_idle s.now k ≡ false
  unfinished k among =
      let least : IsLeastIdle s.now (desk_of past).book.messages.known (first_idle s.now (desk_of past).book.messages.known) = (known_numbers_rise None past).least s.now in
      All-contains (λ (x : Known). is_idle s.now x ≡ false) (desk_of past).book.messages.known k
      (subst (IsLeastIdle s.now (desk_of past).book.messages.known) h.rests.finished least) among

  record Again (c : Channel) (k : Known) : Type 0 where
    begun : ℕ
    is : tried_in c k.n past ≡ Some begun
    after : s.now < next_retry k.birth begun (skip_of c)

  again : (k : Known) → IsKnown past k → (c : Channel) → has_file c k ≡ true → Again c k
  again k among c has = by_begun (tried_in c k.n past) refl
    where
      by_begun : (o : Option ℕ) → tried_in c k.n past ≡ o → Again c k
      by_begun None e =
          let it = h.dues k c among has in
          let late = later c k it.due it.entry in
          let soon = it.untried e in absurd (omega (arith, late, soon))
      by_begun (Some begun) e =
          let it = h.dues k c among has in
          record { begun = begun; is = e; after = subst (λ m. s.now < m) (it.retried begun e) (later c k it.due it.entry) }

  tried : (k : Known) → IsKnown past k → state_of s.disk k.n ≡ S5 → (c : Channel) → HasUndone s.disk c k.n → IsTriedLater s past c k.n
  tried k among five c left = by_flag (has_file c k) refl
    where
      info : (i : ℕ) × (s.disk.names (path (Of Info k.n)) ≡ Some i)
      info = info_of s.disk k.n five

      by_flag : (b : Bool) → has_file c k ≡ b → IsTriedLater s past c k.n
      by_flag true t =
          let it = again k among c t in
          record {
            info = info.0;
            there = info.1;
            begun = it.begun;
            tried = it.is;
            later = subst (λ m. s.now < next_retry m it.begun (skip_of c)) (sym (h.births k info.0 among info.1)) it.after;
          }
      by_flag false t =
          let none = h.gone k c among t in
          let some = left.there in absurd (cc)

  waits : (k : Known) → IsKnown past k → state_of s.disk k.n ≡ S5 → WaitsForRetry s past k.n
  waits k among five =
      let it = some_file s.now k (h.finish k among) (unfinished k among) in
      let a = again k among it.0 it.1 in
      record { state = five; channel = it.0; undone = h.undone k it.0 a.begun among it.1 a.is; later = tried k among five }

  by_state : (n : ℕ) (st : Named) → state_of s.disk n ≡ st → (state_of s.disk n ≡ S1) ⊎ WaitsForRetry s past n
  by_state n S1 e = inl e
  by_state n S2 e = absurd (h.no_s2 n e)
  by_state n S3 e = absurd (h.no_s3 n e)
  by_state n S4 e = absurd (h.no_s4 n e)
  by_state n S5 e =
      let k = h.known n e in
      inr (subst (λ m. WaitsForRetry s past m) k.2 (waits k.0 k.1 (subst (λ m. state_of s.disk m ≡ S5) (sym k.2) e)))
  by_state n Other e = absurd (h.safe n e)

pub suffices : RestsSuffice
suffices s past ready h n = by_state s past ready h n (state_of s.disk n) refl
