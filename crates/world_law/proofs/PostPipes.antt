-- The two pipes between the sender and the spawner of a channel, after an event of an actor.
use Rattle.std.proofs.Common.{◌≡◌, ◌≢◌, ℕ, ◌==◌, List, take, Bool, true, false, ◌&&◌, Option, Some, None, refl, sym, ap, ◌∙◌, bytes_eq, codes, if◌then◌else◌}
use Rattle.call_fs.specs.declared.past.ChildData.TheVariants as child
use Rattle.call_fs.specs.declared.past.GotData.{GotData}
use Rattle.call_fs.specs.declared.past.GotData.TheVariants as got
use Rattle.call_fs.specs.declared.past.NeedData.{NeedData}
use Rattle.call_fs.specs.declared.past.NeedData.TheVariants as needs
use Rattle.call_fs.specs.declared.program.Port.{Port}
use Rattle.call_fs.specs.declared.program.Port.TheVariants as port
use Rattle.queue_law.proofs.Tests.{other_text, same_text}
use Rattle.program_law.specs.Post.Posts.{asked_by, told_by}
use Rattle.program_law.specs.Post.Senders.{asked_on, told_on}
use Rattle.send_known.specs.declared.channel.Channel.{Channel}
use Rattle.send_known.specs.declared.channel.Channel.TheVariants as channel
use Rattle.send_parts.specs.Channels.{port_of}
use Rattle.world_pipes.specs.Pipework.{Mouth, Pipe, Pipework, Tenant, child_output, closed, fresh, given, gives, input_of, is_port, mouth, output}
use Rattle.world_pipes.specs.Pipework.{pipes_after, programs_after, put_pipe, put_program, taken, with_output}
use Rattle.world_pipes.specs.Pipework.Tenant.{Runs, Remote}
use Rattle.world_law.specs.Spawned.{spawner_name}
use Rattle.world_law.proofs.Pipes.{IsAway, away_same, child_away, else_by}

-- two names
pub names_apart : (a b : List ℕ) → bytes_eq a b ≡ false → a ≢ b
names_apart a b off same = let both : true ≡ false = sym (same_text a) ∙ ap (bytes_eq a) same ∙ off in absurd (cc)

pub not_spawner : (c : Channel) → codes "sender" ≢ spawner_name c
not_spawner channel.Local = names_apart (codes "sender") (codes "lspawn") refl
not_spawner channel.Remote = names_apart (codes "sender") (codes "rspawn") refl

-- What is given to the spawner only the sender gives: another port is no link of its channel.

abbrev pub IsNoLink : Port → Channel → Type 0
IsNoLink port.Lspawn channel.Local = ⊥
IsNoLink port.Rspawn channel.Remote = ⊥
IsNoLink p c = Unit {0}

abbrev pub IsCalm : Channel → NeedData → Type 0
IsCalm c (needs.Give p bytes) = IsNoLink p c
IsCalm c due = Unit {0}

no_input : (c : Channel) → is_port (port_of c) port.Input ≡ false
no_input channel.Local = refl
no_input channel.Remote = refl

no_program : (c : Channel) (d : ℕ) → is_port (port_of c) (port.Program d) ≡ false
no_program channel.Local d = refl
no_program channel.Remote d = refl

-- the spawner runs in no slot of the actor
abbrev pub IsNoParent : Channel → Pipework → List ℕ → Type 0
IsNoParent c w a = (d : ℕ) (b : List ℕ) → w.programs a d ≡ Some (Runs b) → b ≢ spawner_name c

-- what is told to the sender, and what is asked of the spawner
abbrev told_in : Channel → (List ℕ → Port → Pipe) → List ℕ
told_in c pipes = (pipes (codes "sender") (port_of c)).bytes

abbrev asked_in : Channel → (List ℕ → Port → Pipe) → List ℕ
asked_in c pipes = (pipes (spawner_name c) port.Input).bytes

-- Another pipe

if_away : (t : Bool) (x y : Option Mouth) (p : Port) → IsAway x p → IsAway y p → IsAway (if t then x else y) p
if_away true x y p h k = h
if_away false x y p h k = k

-- another actor's pipe
pub other_pipe : (pipes : List ℕ → Port → Pipe) (to : Mouth) (change : Pipe → Pipe) (a : List ℕ) (p : Port) → a ≢ to.actor → put_pipe pipes (Some to) change a p ≡ pipes a p
other_pipe pipes to change a p apart = else_by (bytes_eq a to.actor) (is_port p to.port) (change (pipes a p)) (pipes a p) (other_text a to.actor apart)

pub bytes_of : (x y : Pipe) → x ≡ y → x.bytes ≡ y.bytes
bytes_of x y e = ap (λ (p : Pipe). p.bytes) e

-- a pipe that is taken from elsewhere
module _ (w : Pipework) (c : Channel) where
  told_away : (to : Option Mouth) (change : Pipe → Pipe) → IsAway to (port_of c) → told_in c (put_pipe w.pipes to change) ≡ told_in c w.pipes
  told_away to change away = bytes_of _ _ (away_same w.pipes to change (codes "sender") (port_of c) away)

  asked_away : (to : Option Mouth) (change : Pipe → Pipe) → IsAway to port.Input → asked_in c (put_pipe w.pipes to change) ≡ asked_in c w.pipes
  asked_away to change away = bytes_of _ _ (away_same w.pipes to change (spawner_name c) port.Input away)

  -- the input of an actor in a slot
  fed_told : (o : Option Tenant) (change : Pipe → Pipe) → told_in c (put_pipe w.pipes (input_of o) change) ≡ told_in c w.pipes
  fed_told None change = refl
  fed_told (Some (Remote t)) change = refl
  fed_told (Some (Runs b)) change = told_away (Some (mouth b port.Input)) change (no_input c)

  -- a program that starts in a slot has an output of its own
  pub told_output : (a : List ℕ) (d : ℕ) → told_in c (with_output w.pipes a d) ≡ told_in c w.pipes
  told_output a d = told_away (Some (mouth a (port.Program d))) (λ pipe. fresh) (no_program c d)

  pub asked_output : (a : List ℕ) (d : ℕ) → asked_in c (with_output w.pipes a d) ≡ asked_in c w.pipes
  asked_output a d = asked_away (Some (mouth a (port.Program d))) (λ pipe. fresh) refl

-- Other actors

-- which of both it is, the local one or the remote one
abbrev of_both : Channel → (near far : Bool) → Bool
of_both channel.Local near far = near
of_both channel.Remote near far = far

printed_by : (c : Channel) (t u v : Bool) → of_both c u v ≡ false → (o : Option Mouth) → IsAway o (port_of c)
    → IsAway (if t then Some (mouth (codes "sender") port.Clean) else
    (if u then Some (mouth (codes "sender") port.Lspawn) else (if v then Some (mouth (codes "sender") port.Rspawn) else o))) (port_of c)
printed_by channel.Local true u v e o away = refl
printed_by channel.Local false true v e o away = absurd (cc)
printed_by channel.Local false false true e o away = refl
printed_by channel.Local false false false e o away = away
printed_by channel.Remote true u v e o away = refl
printed_by channel.Remote false true v e o away = refl
printed_by channel.Remote false false true e o away = absurd (cc)
printed_by channel.Remote false false false e o away = away

module _ (w : Pipework) (a : List ℕ) where
  -- what somebody prints is no input
  pub output_away : IsAway (output w a) port.Input
  output_away =
      let by_rspawn = if bytes_eq a (codes "rspawn") then Some (mouth (codes "sender") port.Rspawn) else child_output w a (w.slots a) in
      let by_lspawn = if bytes_eq a (codes "lspawn") then Some (mouth (codes "sender") port.Lspawn) else by_rspawn in
      if_away (bytes_eq a (codes "clean")) (Some (mouth (codes "sender") port.Clean)) by_lspawn port.Input refl
      (if_away (bytes_eq a (codes "lspawn")) (Some (mouth (codes "sender") port.Lspawn)) by_rspawn port.Input refl
      (if_away (bytes_eq a (codes "rspawn")) (Some (mouth (codes "sender") port.Rspawn)) (child_output w a (w.slots a)) port.Input refl
      (child_away w a (w.slots a) port.Input (λ n. refl))))

  -- and only the spawner's is what it tells
  printed_off : (c : Channel) → a ≢ spawner_name c → of_both c (bytes_eq a (codes "lspawn")) (bytes_eq a (codes "rspawn")) ≡ false
  printed_off channel.Local apart = other_text a (codes "lspawn") apart
  printed_off channel.Remote apart = other_text a (codes "rspawn") apart

  printed_away : (c : Channel) → a ≢ spawner_name c → IsAway (output w a) (port_of c)
  printed_away c apart =
      printed_by c (bytes_eq a (codes "clean")) (bytes_eq a (codes "lspawn")) (bytes_eq a (codes "rspawn")) (printed_off c apart)
      (child_output w a (w.slots a)) (child_away w a (w.slots a) (port_of c) (no_program c))

  told_gives : (c : Channel) (p : Port) (bytes : List ℕ) → a ≢ spawner_name c → told_in c (gives w a p bytes) ≡ told_in c w.pipes
  told_gives c port.Output bytes apart = told_away w c (output w a) (given bytes) (printed_away c apart)
  told_gives c (port.Program d) bytes apart = fed_told w c (w.programs a d) (λ pipe. closed (given bytes pipe))
  told_gives c p bytes apart = refl

  -- whoever else does something leaves what is told
  pub told_left : (c : Channel) (due : NeedData) (came : GotData) (wrote : ℕ) → a ≢ spawner_name c → a ≢ codes "sender"
      → told_in c (pipes_after w a due came wrote) ≡ told_in c w.pipes
  told_left c (needs.Give p bytes) got.Gave wrote apart other = told_gives c p bytes apart
  told_left c (needs.Give p bytes) got.Failed wrote apart other = told_gives c p (take wrote bytes) apart
  told_left c (needs.Take p) (got.Took bytes) wrote apart other =
      bytes_of _ _ (other_pipe w.pipes (mouth a p) (taken bytes) (codes "sender") (port_of c) (λ same. other (sym same)))
  told_left c (needs.Start (child.Remote slot domain sender recipient)) (got.Started pid) wrote apart other = told_output w c a slot
  told_left c due came wrote apart other = refl

  -- A giving to another port than that of the spawner

  fed_asked : (c : Channel) → IsNoParent c w a → (d : ℕ) (o : Option Tenant) → w.programs a d ≡ o → (change : Pipe → Pipe)
      → asked_in c (put_pipe w.pipes (input_of o) change) ≡ asked_in c w.pipes
  fed_asked c tenants d None is change = refl
  fed_asked c tenants d (Some (Remote t)) is change = refl
  fed_asked c tenants d (Some (Runs b)) is change =
      bytes_of _ _ (other_pipe w.pipes (mouth b port.Input) change (spawner_name c) port.Input (λ same. tenants d b is (sym same)))

  asked_gives : (c : Channel) → IsNoParent c w a → (p : Port) (bytes : List ℕ) → IsNoLink p c → asked_in c (gives w a p bytes) ≡ asked_in c w.pipes
  asked_gives channel.Local tenants port.Lspawn bytes calm = absurd calm
  asked_gives channel.Remote tenants port.Rspawn bytes calm = absurd calm
  asked_gives c tenants port.Output bytes calm = asked_away w c (output w a) (given bytes) output_away
  asked_gives c tenants (port.Program d) bytes calm = fed_asked c tenants d (w.programs a d) refl (λ pipe. closed (given bytes pipe))
  asked_gives c tenants p bytes calm = refl

  -- and what is asked
  pub asked_left : (c : Channel) → IsNoParent c w a → (due : NeedData) (came : GotData) (wrote : ℕ) → IsCalm c due → a ≢ spawner_name c
      → asked_in c (pipes_after w a due came wrote) ≡ asked_in c w.pipes
  asked_left c tenants (needs.Give p bytes) got.Gave wrote calm apart = asked_gives c tenants p bytes calm
  asked_left c tenants (needs.Give p bytes) got.Failed wrote calm apart = asked_gives c tenants p (take wrote bytes) calm
  asked_left c tenants (needs.Take p) (got.Took bytes) wrote calm apart =
      bytes_of _ _ (other_pipe w.pipes (mouth a p) (taken bytes) (spawner_name c) port.Input (λ same. apart (sym same)))
  asked_left c tenants (needs.Start (child.Remote slot domain sender recipient)) (got.Started pid) wrote calm apart = asked_output w c a slot
  asked_left c tenants due came wrote calm apart = refl

-- The slots of another actor

program_by : (t u : Bool) (x y : Option Tenant) → t ≡ false → (if t && u then x else y) ≡ y
program_by true u x y e = absurd (cc)
program_by false u x y e = refl

pub slots_left : (programs : List ℕ → ℕ → Option Tenant) (a b : List ℕ) (d : ℕ) (tenant : Option Tenant) (slot : ℕ) → a ≢ b → put_program programs a d tenant b slot ≡ programs b slot
slots_left programs a b d tenant slot apart = program_by (bytes_eq b a) (slot == d) tenant (programs b slot) (other_text b a (λ same. apart (sym same)))

pub programs_left : (w : Pipework) (a b : List ℕ) (due : NeedData) (came : GotData) (slot : ℕ) → a ≢ b → programs_after w.programs a due came b slot ≡ w.programs b slot
programs_left w a b (needs.Take (port.Status d)) (got.Ended status) slot apart = slots_left w.programs a b d None slot apart
programs_left w a b (needs.Take (port.Status d)) got.Crashed slot apart = slots_left w.programs a b d None slot apart
programs_left w a b (needs.Start (child.Remote number domain sender recipient)) (got.Started pid) slot apart = slots_left w.programs a b number (Some (Remote false)) slot apart
programs_left w a b due came slot apart = refl

-- The sender

abbrev IsNoTook : GotData → Type 0
IsNoTook (got.Took bytes) = ⊥
IsNoTook came = Unit {0}

abbrev IsNoGiving : GotData → Type 0
IsNoGiving got.Gave = ⊥
IsNoGiving got.Failed = ⊥
IsNoGiving came = Unit {0}

none_sent : (c : Channel) (p : Port) (came : GotData) (told : List ℕ) → IsNoTook came → told_on c (needs.Take p) came told ≡ told
none_sent channel.Local port.Lspawn (got.Took bytes) told none = absurd none
none_sent channel.Remote port.Rspawn (got.Took bytes) told none = absurd none
none_sent c p came told none = refl

-- a giving that failed is one of some first bytes
part_sent : (c : Channel) (p : Port) (bytes asked : List ℕ) (wrote : ℕ)
    → asked_on c (needs.Give p (take wrote bytes)) got.Gave wrote asked ≡ asked_on c (needs.Give p bytes) got.Failed wrote asked
part_sent channel.Local port.Lspawn bytes asked wrote = refl
part_sent channel.Remote port.Rspawn bytes asked wrote = refl
part_sent c p bytes asked wrote = refl

rest_sent : (c : Channel) (p : Port) (bytes : List ℕ) (came : GotData) (wrote : ℕ) (asked : List ℕ) → IsNoGiving came → asked ≡ asked_on c (needs.Give p bytes) came wrote asked
rest_sent channel.Local port.Lspawn bytes got.Gave wrote asked none = absurd none
rest_sent channel.Local port.Lspawn bytes got.Failed wrote asked none = absurd none
rest_sent channel.Remote port.Rspawn bytes got.Gave wrote asked none = absurd none
rest_sent channel.Remote port.Rspawn bytes got.Failed wrote asked none = absurd none
rest_sent c p bytes came wrote asked none = refl

module _ (w : Pipework) where
  took_sent : (c : Channel) (p : Port) (bytes : List ℕ)
      → told_in c (put_pipe w.pipes (Some (mouth (codes "sender") p)) (taken bytes)) ≡ told_on c (needs.Take p) (got.Took bytes) (told_in c w.pipes)
  took_sent channel.Local port.Lspawn bytes = refl
  took_sent channel.Remote port.Rspawn bytes = refl
  took_sent c p bytes = refl

  pub told_sent : (c : Channel) (due : NeedData) (came : GotData) (wrote : ℕ)
      → told_in c (pipes_after w (codes "sender") due came wrote) ≡ told_on c due came (told_in c w.pipes)
  told_sent c (needs.Give p bytes) got.Gave wrote = told_gives w (codes "sender") c p bytes (not_spawner c)
  told_sent c (needs.Give p bytes) got.Failed wrote = told_gives w (codes "sender") c p (take wrote bytes) (not_spawner c)
  told_sent c (needs.Take p) (got.Took bytes) wrote = took_sent c p bytes
  told_sent c (needs.Take p) came wrote = sym (none_sent c p came (told_in c w.pipes) tt)
  told_sent c (needs.Start (child.Remote slot domain sender recipient)) (got.Started pid) wrote = told_output w c (codes "sender") slot
  told_sent c due came wrote = refl

  gave_sent : (c : Channel) → IsNoParent c w (codes "sender") → (p : Port) (bytes : List ℕ) (wrote : ℕ)
      → asked_in c (gives w (codes "sender") p bytes) ≡ asked_on c (needs.Give p bytes) got.Gave wrote (asked_in c w.pipes)
  gave_sent channel.Local tenants port.Lspawn bytes wrote = refl
  gave_sent channel.Remote tenants port.Rspawn bytes wrote = refl
  gave_sent c tenants port.Output bytes wrote = asked_gives w (codes "sender") c tenants port.Output bytes tt
  gave_sent c tenants (port.Program d) bytes wrote = asked_gives w (codes "sender") c tenants (port.Program d) bytes tt
  gave_sent c tenants p bytes wrote = refl

  pub asked_sent : (c : Channel) → IsNoParent c w (codes "sender") → (due : NeedData) (came : GotData) (wrote : ℕ)
      → asked_in c (pipes_after w (codes "sender") due came wrote) ≡ asked_on c due came wrote (asked_in c w.pipes)
  asked_sent c tenants (needs.Give p bytes) got.Gave wrote = gave_sent c tenants p bytes wrote
  asked_sent c tenants (needs.Give p bytes) got.Failed wrote = gave_sent c tenants p (take wrote bytes) wrote ∙ part_sent c p bytes (asked_in c w.pipes) wrote
  asked_sent c tenants (needs.Give p bytes) came wrote = rest_sent c p bytes came wrote (asked_in c w.pipes) tt
  asked_sent c tenants (needs.Take p) (got.Took bytes) wrote = asked_left w (codes "sender") c tenants (needs.Take p) (got.Took bytes) wrote tt (not_spawner c)
  asked_sent c tenants (needs.Start (child.Remote slot domain sender recipient)) (got.Started pid) wrote = asked_output w c (codes "sender") slot
  asked_sent c tenants due came wrote = refl

-- The spawner

-- a giving that failed is one of some first bytes
part_told : (p : Port) (bytes told : List ℕ) (wrote : ℕ) → told_by (needs.Give p (take wrote bytes)) got.Gave wrote told ≡ told_by (needs.Give p bytes) got.Failed wrote told
part_told port.Output bytes told wrote = refl
part_told p bytes told wrote = refl

rest_told : (p : Port) (bytes : List ℕ) (came : GotData) (wrote : ℕ) (told : List ℕ) → IsNoGiving came → told ≡ told_by (needs.Give p bytes) came wrote told
rest_told port.Output bytes got.Gave wrote told none = absurd none
rest_told port.Output bytes got.Failed wrote told none = absurd none
rest_told p bytes came wrote told none = refl

rest_asked : (p : Port) (came : GotData) (asked : List ℕ) → IsNoTook came → asked ≡ asked_by (needs.Take p) came asked
rest_asked port.Input (got.Took bytes) asked none = absurd none
rest_asked p came asked none = refl

module _ (w : Pipework) where
  gave_told : (c : Channel) (p : Port) (bytes : List ℕ) (wrote : ℕ)
      → told_in c (gives w (spawner_name c) p bytes) ≡ told_by (needs.Give p bytes) got.Gave wrote (told_in c w.pipes)
  gave_told channel.Local port.Output bytes wrote = refl
  gave_told channel.Remote port.Output bytes wrote = refl
  gave_told c (port.Program d) bytes wrote = fed_told w c (w.programs (spawner_name c) d) (λ pipe. closed (given bytes pipe))
  gave_told c p bytes wrote = refl

  pub told_spawned : (c : Channel) (due : NeedData) (came : GotData) (wrote : ℕ)
      → told_in c (pipes_after w (spawner_name c) due came wrote) ≡ told_by due came wrote (told_in c w.pipes)
  told_spawned c (needs.Give p bytes) got.Gave wrote = gave_told c p bytes wrote
  told_spawned c (needs.Give p bytes) got.Failed wrote = gave_told c p (take wrote bytes) wrote ∙ part_told p bytes (told_in c w.pipes) wrote
  told_spawned c (needs.Give p bytes) came wrote = rest_told p bytes came wrote (told_in c w.pipes) tt
  told_spawned c (needs.Take p) (got.Took bytes) wrote = bytes_of _ _ (other_pipe w.pipes (mouth (spawner_name c) p) (taken bytes) (codes "sender") (port_of c) (not_spawner c))
  told_spawned c (needs.Start (child.Remote slot domain sender recipient)) (got.Started pid) wrote = told_output w c (spawner_name c) slot
  told_spawned c due came wrote = refl

  took_asked : (c : Channel) (p : Port) (bytes : List ℕ)
      → asked_in c (put_pipe w.pipes (Some (mouth (spawner_name c) p)) (taken bytes)) ≡ asked_by (needs.Take p) (got.Took bytes) (asked_in c w.pipes)
  took_asked channel.Local port.Input bytes = refl
  took_asked channel.Remote port.Input bytes = refl
  took_asked c p bytes = refl

  pub asked_spawned : (c : Channel) → IsNoParent c w (spawner_name c) → (due : NeedData) (came : GotData) (wrote : ℕ) → IsCalm c due
      → asked_in c (pipes_after w (spawner_name c) due came wrote) ≡ asked_by due came (asked_in c w.pipes)
  asked_spawned c tenants (needs.Give p bytes) got.Gave wrote calm = asked_gives w (spawner_name c) c tenants p bytes calm
  asked_spawned c tenants (needs.Give p bytes) got.Failed wrote calm = asked_gives w (spawner_name c) c tenants p (take wrote bytes) calm
  asked_spawned c tenants (needs.Take p) (got.Took bytes) wrote calm = took_asked c p bytes
  asked_spawned c tenants (needs.Take p) came wrote calm = rest_asked p came (asked_in c w.pipes) tt
  asked_spawned c tenants (needs.Start (child.Remote slot domain sender recipient)) (got.Started pid) wrote calm = asked_output w c (spawner_name c) slot
  asked_spawned c tenants due came wrote calm = refl
