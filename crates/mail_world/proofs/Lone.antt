-- An actor that starts alone with its whole input: nobody adds to that, and what it gave stays.
use Rattle.std.proofs.Common.{◌≡◌, ◌≢◌, ◌⊎◌, ⊎_elim, ℕ, List, [], ◌∷◌, ◌++◌, length, take, drop, bytes_eq, codes, Bool, true, false, ◌&&◌, if◌then◌else◌, Option, Some, None, option_map, refl, sym, ap, ◌∙◌, subst, append_assoc}
use Rattle.std.proofs.Math.Seq.{drop-append_seam}
use Rattle.std.proofs.lemmas.List.{append-nil}
use Rattle.std.specs.Prelude.{◌==◌}
use Rattle.call_fs.proofs.Maps.{put_at_cases, put_at_other, put_at_same}
use Rattle.call_fs.specs.declared.past.ChildData.TheVariants as child
use Rattle.call_fs.specs.declared.past.ChildData.{ChildData}
use Rattle.call_fs.specs.declared.past.GotData.{GotData}
use Rattle.call_fs.specs.declared.past.GotData.TheVariants as got
use Rattle.call_fs.specs.declared.past.NeedData.{NeedData}
use Rattle.call_fs.specs.declared.past.NeedData.TheVariants as needs
use Rattle.call_fs.specs.declared.past.Own.{Own}
use Rattle.call_fs.specs.declared.program.Port.{Port}
use Rattle.call_fs.specs.declared.program.Port.TheVariants as port
use Rattle.queue_law.proofs.Tests.{other_text, same_text, text_cases}
use Rattle.world_events.specs.declared.event.Program.{Program}
use Rattle.mail_world.specs.Pipework.{Mouth, Pipe, Pipework, Tenant, child_output, closed, fresh, given, is_member, is_port, is_writer, mouth, output, pipework_after, put_pipe, taken, with_child, writer}
use Rattle.mail_world.specs.Pipework.Tenant.{Runs, Remote}
use Rattle.mail_world.specs.History.{Actor, Allowed, ComesOf, Event, Life, State, acted, begins, finished, happens, newborn, slot_by, stopped}
use Rattle.mail_world.specs.History.Event.{Start, Act, Child, Generation, Report, End, Stop, Moment, Halt}
use Rattle.mail_world.specs.History.Life.{Over, Stopped}
use Rattle.mail_world.specs.Lone.{HasInput, IsApart, IsLoneNeed, LonesHaveTheirInput, WhatWasGivenStays, begins_lone, gives_in, gives_out, said_by, taken_of, takes_in}
use Rattle.mail_world.specs.Untouched.{is_halt}
use Rattle.mail_world.proofs.Anew.{no_tenant, none_some, remote_tenant, runs_if, some_is}
use Rattle.mail_world.proofs.Awaiting.{and_false, gives_not, input_past, past_each, port_not, ran_before}
use Rattle.mail_world.proofs.Members.{crew_other, member_contained, other_than, whether}

-- Its own events

-- what was taken comes before what is left, and the rest is as it was
abbrev Splits : NeedData → GotData → Pipe → Pipe → Type 0
Splits due came before now = (takes_in due came ++ now.bytes ≡ before.bytes) × (now.shut ≡ before.shut)

same_pipe : (p q : Pipe) → q ≡ p → (q.bytes ≡ p.bytes) × (q.shut ≡ p.shut)
same_pipe p q e = (ap (λ (x : Pipe). x.bytes) e, ap (λ (x : Pipe). x.shut) e)

last_of : (t u v : Bool) (x y z o : Option Mouth) → t ≡ false → u ≡ false → v ≡ false → (if t then x else (if u then y else (if v then z else o))) ≡ o
last_of false false false x y z o e f g = refl
last_of false false true x y z o e f g = absurd (cc)
last_of false true v x y z o e f g = absurd (cc)
last_of true u v x y z o e f g = absurd (cc)

no_input : (p : Port) → p ≢ port.Input → is_port p port.Input ≡ false
no_input port.Input far = absurd (far refl)
no_input p far = refl

no_program_else : (w : Pipework) (a : List ℕ) (due : NeedData) (came : GotData) (wrote : ℕ) → IsLoneNeed due → (b : List ℕ) (d : ℕ) → (pipework_after w a due came wrote).programs b d ≡ w.programs b d
no_program_else w a (needs.Take port.Input) came wrote need b d = refl
no_program_else w a (needs.Take q) came wrote need b d = absurd need
no_program_else w a (needs.Start asked) came wrote need b d = absurd need
no_program_else w a due came wrote need b d = refl

module _ (w : Pipework) (a : List ℕ) (A : IsApart w a) where
  abbrev input : Pipe
  input = w.pipes a port.Input

  other_name : (m : List ℕ) → is_member m ≡ true → bytes_eq a m ≡ false
  other_name m is = other_text a m (other_than a m A.named is)

  -- what it gives goes to nobody
  no_output : output w a ≡ None
  no_output =
      last_of (bytes_eq a (codes "clean")) (bytes_eq a (codes "lspawn")) (bytes_eq a (codes "rspawn"))
      (Some (mouth (codes "sender") port.Clean)) (Some (mouth (codes "sender") port.Lspawn)) (Some (mouth (codes "sender") port.Rspawn)) (child_output w a (w.slots a))
      (other_name (codes "clean") refl) (other_name (codes "lspawn") refl) (other_name (codes "rspawn") refl)
      ∙ ap (child_output w a) A.slot

  gives_none : (bytes b : List ℕ) (p : Port) → put_pipe w.pipes (output w a) (given bytes) b p ≡ w.pipes b p
  gives_none bytes b p = ap (λ (o : Option Mouth). put_pipe w.pipes o (given bytes) b p) no_output

  took_else : (bytes b : List ℕ) (p : Port) → (b ≢ a) ⊎ (p ≢ port.Input) → put_pipe w.pipes (Some (mouth a port.Input)) (taken bytes) b p ≡ w.pipes b p
  took_else bytes b p far =
      let off : (bytes_eq b a && is_port p port.Input) ≡ false = ⊎_elim
      (λ (c : b ≢ a). ap (λ (t : Bool). t && is_port p port.Input) (other_text b a c))
      (λ (c : p ≢ port.Input). ap (λ (t : Bool). bytes_eq b a && t) (no_input p c) ∙ and_false (bytes_eq b a))
      far in
      ap (λ (t : Bool). if t then taken bytes (w.pipes b p) else w.pipes b p) off

  no_pipe_else : (due : NeedData) (came : GotData) (wrote : ℕ) → IsLoneNeed due → (b : List ℕ) (p : Port) → (b ≢ a) ⊎ (p ≢ port.Input) → (pipework_after w a due came wrote).pipes b p ≡ w.pipes b p
  no_pipe_else (needs.Take port.Input) (got.Took bytes) wrote need b p far = took_else bytes b p far
  no_pipe_else (needs.Take port.Input) came wrote need b p far = refl
  no_pipe_else (needs.Take q) came wrote need b p far = absurd need
  no_pipe_else (needs.Give port.Output bytes) got.Gave wrote need b p far = gives_none bytes b p
  no_pipe_else (needs.Give port.Output bytes) got.Failed wrote need b p far = gives_none (take wrote bytes) b p
  no_pipe_else (needs.Give port.Output bytes) came wrote need b p far = refl
  no_pipe_else (needs.Give q bytes) came wrote need b p far = absurd need
  no_pipe_else (needs.Start asked) came wrote need b p far = absurd need
  no_pipe_else due came wrote need b p far = refl

  took : (bytes : List ℕ) → ((rest : List ℕ) × (input.bytes ≡ bytes ++ rest)) → Splits (needs.Take port.Input) (got.Took bytes) input (put_pipe w.pipes (Some (mouth a port.Input)) (taken bytes) a port.Input)
  took bytes comes =
      let now : put_pipe w.pipes (Some (mouth a port.Input)) (taken bytes) a port.Input ≡ taken bytes input = ap (λ (t : Bool). if t && true then taken bytes input else input) (same_text a) in (
        ap (λ (p : Pipe). bytes ++ p.bytes) now ∙ ap (λ (l : List ℕ). bytes ++ drop (length bytes) l) comes.1 ∙ ap (λ (l : List ℕ). bytes ++ l) (drop-append_seam bytes comes.0) ∙ sym comes.1,
        ap (λ (p : Pipe). p.shut) now,
      )

  own_input : (due : NeedData) (came : GotData) (wrote : ℕ) → ((bytes : List ℕ) → due ≡ needs.Take port.Input → came ≡ got.Took bytes → (rest : List ℕ) × (input.bytes ≡ bytes ++ rest))
      → Splits due came input ((pipework_after w a due came wrote).pipes a port.Input)
  own_input (needs.Take port.Input) (got.Took bytes) wrote comes = took bytes (comes bytes refl refl)
  own_input (needs.Take port.Output) (got.Took bytes) wrote comes = same_pipe input _ (port_not w.pipes (taken bytes) a a port.Output refl)
  own_input (needs.Take port.Clean) (got.Took bytes) wrote comes = same_pipe input _ (port_not w.pipes (taken bytes) a a port.Clean refl)
  own_input (needs.Take port.Lspawn) (got.Took bytes) wrote comes = same_pipe input _ (port_not w.pipes (taken bytes) a a port.Lspawn refl)
  own_input (needs.Take port.Rspawn) (got.Took bytes) wrote comes = same_pipe input _ (port_not w.pipes (taken bytes) a a port.Rspawn refl)
  own_input (needs.Take port.Todo) (got.Took bytes) wrote comes = same_pipe input _ (port_not w.pipes (taken bytes) a a port.Todo refl)
  own_input (needs.Take (port.Program d)) (got.Took bytes) wrote comes = same_pipe input _ (port_not w.pipes (taken bytes) a a (port.Program d) refl)
  own_input (needs.Take (port.Status d)) (got.Took bytes) wrote comes = same_pipe input _ (port_not w.pipes (taken bytes) a a (port.Status d) refl)
  own_input (needs.Give p bytes) got.Gave wrote comes = same_pipe input _ (gives_not w a a p bytes A.named (past_each w a a (A.tenant a) (needs.Give p bytes)))
  own_input (needs.Give p bytes) got.Failed wrote comes = same_pipe input _ (gives_not w a a p (take wrote bytes) A.named (past_each w a a (A.tenant a) (needs.Give p (take wrote bytes))))
  own_input (needs.Start (child.Remote slot domain sender recipient)) (got.Started pid) wrote comes = same_pipe input _ (port_not w.pipes (λ _. fresh) a a (port.Program slot) refl)
  own_input due came wrote comes = (refl, refl)

-- An event of anybody

new_far : (actors : List ℕ → Option Actor) (a b : List ℕ) (x : Actor) → actors a ≡ Some x → actors b ≡ None → a ≢ b
new_far actors a b x is new same = none_some (actors b) x new (ap actors (sym same) ∙ is)

shut_same : (t : Bool) (p : Pipe) → p.shut ≡ true → (if t then closed p else p) ≡ p
shut_same true p shut = ap (λ (b : Bool). record { bytes = p.bytes; shut = b }) (sym shut)
shut_same false p shut = refl

runs_other : (a b : List ℕ) → a ≢ b → ◌≡◌ {A = Option Tenant} (Some (Runs b)) (Some (Runs a)) → ⊥
runs_other a b far e = let same : b ≡ a = cc in far (sym same)

module _ (a input : List ℕ) where
  with_pipe : (s t : State) (H : HasInput s a input) (y : Actor) → t.actors a ≡ Some y → taken_of y.past ≡ taken_of H.actor.past → IsApart t.pipework a → t.pipework.pipes a port.Input ≡ s.pipework.pipes a port.Input
      → HasInput t a input
  with_pipe s t H y is past apart same = record {
    actor = y;
    is = is;
    apart = apart;
    parts = ap (λ (l : List ℕ). l ++ (t.pipework.pipes a port.Input).bytes) past ∙ ap (λ (p : Pipe). taken_of H.actor.past ++ p.bytes) same ∙ H.parts;
    shut = ap (λ (p : Pipe). p.shut) same ∙ H.shut;
  }

  acted_apart : (w : Pipework) (b : List ℕ) (due : NeedData) (came : GotData) (wrote : ℕ) → IsApart w a → IsApart (pipework_after w b due came wrote) a
  acted_apart w b due came wrote A = record { named = A.named; slot = A.slot; tenant = λ c d is. A.tenant c d (ran_before w b due came c d a is) }

  own_acts : (s : State) (H : HasInput s a input) (own : Own) (wrote : ℕ)
      → ((bytes : List ℕ) → own.due ≡ needs.Take port.Input → own.came ≡ got.Took bytes → (rest : List ℕ) × ((s.pipework.pipes a port.Input).bytes ≡ bytes ++ rest))
      → HasInput (acted s a own wrote (Some H.actor)) a input
  own_acts s H own wrote comes =
      let w = s.pipework in
      let now = (pipework_after w a own.due own.came wrote).pipes a port.Input in
      let splits = own_input w a H.apart own.due own.came wrote comes in
      record {
        actor = record { program = H.actor.program; past = own ∷ H.actor.past; life = H.actor.life };
        is = put_at_same s.actors a _;
        apart = acted_apart w a own.due own.came wrote H.apart;
        parts = append_assoc (taken_of H.actor.past) (takes_in own.due own.came) now.bytes ∙ ap (λ (l : List ℕ). taken_of H.actor.past ++ l) splits.0 ∙ H.parts;
        shut = splits.1 ∙ H.shut;
      }

  acts : (s : State) (H : HasInput s a input) (b : List ℕ) (z : Actor) (own : Own) (wrote : ℕ) → s.actors b ≡ Some z
      → (a ≡ b → (bytes : List ℕ) → own.due ≡ needs.Take port.Input → own.came ≡ got.Took bytes → (rest : List ℕ) × ((s.pipework.pipes a port.Input).bytes ≡ bytes ++ rest))
      → HasInput (acted s b own wrote (s.actors b)) a input
  acts s H b z own wrote is comes = ⊎_elim
      (λ same. subst (λ (c : List ℕ). HasInput (acted s c own wrote (s.actors c)) a input) same.0
      (subst (λ (o : Option Actor). HasInput (acted s a own wrote o) a input) (sym H.is) (own_acts s H own wrote (comes same.0))))
      (λ far. subst (λ (o : Option Actor). HasInput (acted s b own wrote o) a input) (sym is)
      (with_pipe s (acted s b own wrote (Some z)) H H.actor (put_at_other s.actors b _ a far.0 ∙ H.is) refl (acted_apart s.pipework b own.due own.came wrote H.apart)
      (input_past s.pipework b a own.due own.came wrote H.apart.named far.0 (past_each s.pipework b a (H.apart.tenant b) own.due))))
      (text_cases a b)

  starts_other : (s : State) (H : HasInput s a input) (b : List ℕ) (program : Program) (parent : List ℕ) (d : ℕ) → a ≢ b → HasInput (begins s b program (with_child s.pipework parent d b)) a input
  starts_other s H b program parent d far =
      with_pipe s (begins s b program (with_child s.pipework parent d b)) H H.actor (put_at_other s.actors b (Some (newborn program)) a far ∙ H.is) refl
      (record {
        named = H.apart.named;
        slot = put_at_other s.pipework.slots b _ a far ∙ H.apart.slot;
        tenant = λ c e is. H.apart.tenant c e (runs_if (bytes_eq c parent && (e == d)) (Some (Runs b)) (s.pipework.programs c e) a (runs_other a b far) is);
      })
      (port_not s.pipework.pipes (λ _. fresh) a parent (port.Program d) refl)

  over : (s : State) (H : HasInput s a input) (b : List ℕ) (life : Life) (o : Option Actor) → s.actors b ≡ o → HasInput (finished s b life o) a input
  over s H b life None is = H
  over s H b life (Some z) is =
      let w = s.pipework in
      let t = finished s b life (Some z) in
      let apart : IsApart t.pipework a = record { named = H.apart.named; slot = H.apart.slot; tenant = H.apart.tenant } in
      let pipe = shut_same (is_writer b (writer w a port.Input)) (w.pipes a port.Input) H.shut in
      ⊎_elim
      (λ same. with_pipe s t H _ same.1 (ap (λ (y : Actor). taken_of y.past) (some_is z H.actor (sym is ∙ ap s.actors (sym same.0) ∙ H.is))) apart pipe)
      (λ far. with_pipe s t H H.actor (far.1 ∙ H.is) refl apart pipe)
      (put_at_cases s.actors b (Some (record { program = z.program; past = z.past; life = life })) a)

  stays : (s : State) (e : Event) → Allowed s e → is_halt e ≡ false → HasInput s a input → HasInput (happens s e) a input
  stays s (Start b program) may lasts H =
      with_pipe s (begins s b program s.pipework) H H.actor (put_at_other s.actors b (Some (newborn program)) a (new_far s.actors a b H.actor H.is may.new) ∙ H.is) refl H.apart refl
  stays s (Act b own wrote) may lasts H = acts s H b may.actor own wrote may.reads.is
      (λ same bytes due came.
      let it : ComesOf s b (needs.Take port.Input) (got.Took bytes) wrote =
      subst (λ (n : NeedData). ComesOf s b n (got.Took bytes) wrote) due (subst (λ (g : GotData). ComesOf s b own.due g wrote) came may.came) in
      let here : ComesOf s a (needs.Take port.Input) (got.Took bytes) wrote = subst (λ (c : List ℕ). ComesOf s c (needs.Take port.Input) (got.Took bytes) wrote) (sym same) it in here.1)
  stays s (Child parent own b program) may lasts H =
      starts_other (acted s parent own 0 (s.actors parent))
      (acts s H parent may.actor own 0 may.reads.is (λ same bytes due came. let both = sym due ∙ may.starts in absurd (cc)))
      b program parent (slot_by own.due) (new_far s.actors a b H.actor H.is may.new)
  stays s (Generation crew) may lasts H =
      with_pipe s (happens s (Generation crew)) H H.actor (crew_other s.actors crew a H.apart.named ∙ H.is) refl
      (record { named = H.apart.named; slot = H.apart.slot; tenant = λ c d is. H.apart.tenant c d (runs_if (is_member c) None (s.pipework.programs c d) a (no_tenant a) is) })
      (ap (λ (t : Bool). if t then fresh else s.pipework.pipes a port.Input) H.apart.named)
  stays s (Report slot bytes) may lasts H =
      with_pipe s (happens s (Report slot bytes)) H H.actor H.is refl
      (record {
        named = H.apart.named;
        slot = H.apart.slot;
        tenant = λ c d is. H.apart.tenant c d (runs_if (bytes_eq c (codes "rspawn") && (d == slot)) (Some (Remote true)) (s.pipework.programs c d) a (remote_tenant true a) is);
      })
      (port_not s.pipework.pipes (λ pipe. closed (given bytes pipe)) a (codes "rspawn") (port.Program slot) refl)
  stays s (End b read ready status) may lasts H = over s H b (Over status) (s.actors b) refl
  stays s (Stop b) may lasts H = over s H b Stopped (s.actors b) refl
  stays s (Moment m) may lasts H = with_pipe s (happens s (Moment m)) H H.actor H.is refl H.apart refl
  stays s (Halt how contents) may lasts H = absurd (cc)

starts : (s : State) (a : List ℕ) (program : Program) (input : List ℕ) → IsApart s.pipework a → HasInput (begins_lone s a program input) a input
starts s a program input A =
    let whole = closed (given input fresh) in
    let now : put_pipe s.pipework.pipes (Some (mouth a port.Input)) (λ _. whole) a port.Input ≡ whole = ap (λ (t : Bool). if t && true then whole else s.pipework.pipes a port.Input) (same_text a) in
    record {
      actor = newborn program;
      is = put_at_same s.actors a (Some (newborn program));
      apart = record { named = A.named; slot = A.slot; tenant = A.tenant };
      parts = ap (λ (p : Pipe). p.bytes) now;
      shut = ap (λ (p : Pipe). p.shut) now;
    }

pub lones_have_their_input : LonesHaveTheirInput
lones_have_their_input = record {
  starts = starts;
  stays = λ s e a input may lasts H. stays a input s e may lasts H;
  pipes = λ w a own wrote A need b p far. no_pipe_else w a A own.due own.came wrote need b p far;
  programs = λ w a own wrote need b d. no_program_else w a own.due own.came wrote need b d;
}

-- What was given

starts_nothing : (t : Bool) (asked : ChildData) (came : GotData) → (if t then gives_out (needs.Start asked) came else []) ≡ []
starts_nothing true asked came = refl
starts_nothing false asked came = refl

halt_said : (o : Option Actor) → said_by (option_map stopped o) ≡ said_by o
halt_said None = refl
halt_said (Some x) = refl

module _ (s : State) (a : List ℕ) where
  own_said : (own : Own) (wrote : ℕ) (x : Actor) → s.actors a ≡ Some x → said_by ((acted s a own wrote (s.actors a)).actors a) ≡ said_by (s.actors a) ++ gives_out own.due own.came
  own_said own wrote x is =
      subst (λ (o : Option Actor). said_by ((acted s a own wrote o).actors a) ≡ said_by o ++ gives_out own.due own.came) (sym is)
      (ap said_by (put_at_same s.actors a (Some (record { program = x.program; past = own ∷ x.past; life = x.life }))))

  other_said : (b : List ℕ) (own : Own) (wrote : ℕ) (o : Option Actor) → a ≢ b → said_by ((acted s b own wrote o).actors a) ≡ said_by (s.actors a)
  other_said b own wrote None far = refl
  other_said b own wrote (Some z) far = ap said_by (put_at_other s.actors b _ a far)

  abbrev then_gives : Own → Bool → List ℕ
  then_gives own t = said_by (s.actors a) ++ (if t then gives_out own.due own.came else [])

  abbrev Says : List ℕ → Own → ℕ → List ℕ → Type 0
  Says b own wrote l = said_by ((acted s b own wrote (s.actors b)).actors a) ≡ l

  by_own : (b : List ℕ) (own : Own) (wrote : ℕ) (x : Actor) → s.actors a ≡ Some x → a ≡ b → bytes_eq a b ≡ true → Says b own wrote (then_gives own (bytes_eq a b))
  by_own b own wrote x is same its =
      let here : Says b own wrote (then_gives own true) = subst (λ (c : List ℕ). Says c own wrote (then_gives own true)) same (own_said own wrote x is) in
      here ∙ ap (then_gives own) (sym its)

  by_other : (b : List ℕ) (own : Own) (wrote : ℕ) → a ≢ b → bytes_eq a b ≡ false → Says b own wrote (then_gives own (bytes_eq a b))
  by_other b own wrote far its =
      let here : Says b own wrote (said_by (s.actors a)) = other_said b own wrote (s.actors b) far in
      let more : said_by (s.actors a) ≡ then_gives own false = sym (append-nil (said_by (s.actors a))) in
      here ∙ more ∙ ap (then_gives own) (sym its)

  acts_said : (b : List ℕ) (own : Own) (wrote : ℕ) (x : Actor) → s.actors a ≡ Some x → Says b own wrote (then_gives own (bytes_eq a b))
  acts_said b own wrote x is = ⊎_elim (λ same. by_own b own wrote x is same.0 same.1) (λ far. by_other b own wrote far.0 far.1) (text_cases a b)

  over_said : (b : List ℕ) (life : Life) (o : Option Actor) → s.actors b ≡ o → said_by ((finished s b life o).actors a) ≡ said_by (s.actors a)
  over_said b life None is = refl
  over_said b life (Some z) is = ⊎_elim
      (λ same. ap said_by same.1 ∙ ap said_by (sym is ∙ ap s.actors (sym same.0)))
      (λ far. ap said_by far.1)
      (put_at_cases s.actors b (Some (record { program = z.program; past = z.past; life = life })) a)

pub what_was_given_stays : WhatWasGivenStays
what_was_given_stays s e a x is runs may = by e may where
  end : List ℕ
  end = said_by (s.actors a)

  by : (e : Event) → Allowed s e → said_by ((happens s e).actors a) ≡ end ++ gives_in a e
  by (Start b program) may = ap said_by (put_at_other s.actors b (Some (newborn program)) a (new_far s.actors a b x is may.new)) ∙ sym (append-nil end)
  by (Act b own wrote) may = acts_said s a b own wrote x is
  by (Child parent own b program) may =
      let t = acted s parent own 0 (s.actors parent) in
      ap said_by (put_at_other t.actors b (Some (newborn program)) a (new_far s.actors a b x is may.new))
      ∙ acts_said s a parent own 0 x is
      ∙ ap (λ (n : NeedData). end ++ (if bytes_eq a parent then gives_out n own.came else [])) may.starts
      ∙ ap (λ (l : List ℕ). end ++ l) (starts_nothing (bytes_eq a parent) may.asked own.came)
  by (Generation crew) may = ⊎_elim
      (λ member. absurd (may.apart a x (member_contained a member) is runs))
      (λ named. ap said_by (crew_other s.actors crew a named) ∙ sym (append-nil end))
      (whether (is_member a))
  by (Report slot bytes) may = sym (append-nil end)
  by (End b read ready status) may = over_said s a b (Over status) (s.actors b) refl ∙ sym (append-nil end)
  by (Stop b) may = over_said s a b Stopped (s.actors b) refl ∙ sym (append-nil end)
  by (Moment m) may = sym (append-nil end)
  by (Halt how contents) may = halt_said (s.actors a) ∙ sym (append-nil end)
