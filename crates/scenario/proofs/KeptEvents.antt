-- Which event a kept one tells.
use Rattle.std.proofs.Common.{◌≡◌, ◌∙◌, ℕ, List, ap, sym}
use Rattle.call_fs.specs.declared.past.Own.{Own}
use Rattle.call_fs.specs.declared.program.Ready.{Ready}
use Rattle.world_events.specs.declared.event.Event.TheVariants as kept
use Rattle.world_events.specs.declared.event.Program.{Program}
use Rattle.mail_world.specs.History.{Event, report_text}
use Rattle.mail_world.specs.History.Event.{Start, Act, Child, Generation, Report, End, Stop, Moment, Halt}
use Rattle.mail_world.specs.World.{Tells}
use Rattle.scenario.specs.Turns.{generation_at}
use Rattle.world_events.specs.Programs.{crew_at}

pub act_told : (a : List ℕ) (own : Own) (e : Event) → Tells (kept.Act a own) e → (w : ℕ) × (e ≡ Act a own w)
act_told a own (Start b program) told = absurd (cc)
act_told a own (Act b other w) told = (w, cc)
act_told a own (Child parent other b program) told = absurd (cc)
act_told a own (Generation crew) told = (let kept_is = told.1 in absurd (cc))
act_told a own (Report slot output) told = (let kept_is = told.2 in absurd (cc))
act_told a own (End b q r status) told = absurd (cc)
act_told a own (Stop b) told = absurd (cc)
act_told a own (Moment m) told = absurd (cc)
act_told a own (Halt how contents) told = absurd (cc)

pub child_told : (a : List ℕ) (own : Own) (c : List ℕ) (program : Program) (e : Event) → Tells (kept.Child a own c program) e → e ≡ Child a own c program
child_told a own c program (Start b other) told = absurd (cc)
child_told a own c program (Act b other w) told = absurd (cc)
child_told a own c program (Child b other d starts) told = cc
child_told a own c program (Generation crew) told = (let kept_is = told.1 in absurd (cc))
child_told a own c program (Report slot output) told = (let kept_is = told.2 in absurd (cc))
child_told a own c program (End b q r status) told = absurd (cc)
child_told a own c program (Stop b) told = absurd (cc)
child_told a own c program (Moment m) told = absurd (cc)
child_told a own c program (Halt how contents) told = absurd (cc)

pub end_told : (a : List ℕ) (p : ℕ) (ready : Ready) (status : ℕ) (e : Event) → Tells (kept.End a p ready status) e → e ≡ End a p ready status
end_told a p ready status (Start b program) told = absurd (cc)
end_told a p ready status (Act b own w) told = absurd (cc)
end_told a p ready status (Child parent own b other) told = absurd (cc)
end_told a p ready status (Generation crew) told = (let kept_is = told.1 in absurd (cc))
end_told a p ready status (Report slot output) told = (let kept_is = told.2 in absurd (cc))
end_told a p ready status (End b q r other) told = cc
end_told a p ready status (Stop b) told = absurd (cc)
end_told a p ready status (Moment m) told = absurd (cc)
end_told a p ready status (Halt how contents) told = absurd (cc)

pub start_told : (a : List ℕ) (program : Program) (e : Event) → Tells (kept.Start a program) e → e ≡ Start a program
start_told a program (Start b other) told = cc
start_told a program (Act b own w) told = absurd (cc)
start_told a program (Child parent own b other) told = absurd (cc)
start_told a program (Generation crew) told = (let kept_is = told.1 in absurd (cc))
start_told a program (Report slot output) told = (let kept_is = told.2 in absurd (cc))
start_told a program (End b q r status) told = absurd (cc)
start_told a program (Stop b) told = absurd (cc)
start_told a program (Moment m) told = absurd (cc)
start_told a program (Halt how contents) told = absurd (cc)

pub stop_told : (a : List ℕ) (e : Event) → Tells (kept.Stop a) e → e ≡ Stop a
stop_told a (Start b program) told = absurd (cc)
stop_told a (Act b own w) told = absurd (cc)
stop_told a (Child parent own b other) told = absurd (cc)
stop_told a (Generation crew) told = (let kept_is = told.1 in absurd (cc))
stop_told a (Report slot output) told = (let kept_is = told.2 in absurd (cc))
stop_told a (End b q r status) told = absurd (cc)
stop_told a (Stop b) told = cc
stop_told a (Moment m) told = absurd (cc)
stop_told a (Halt how contents) told = absurd (cc)

pub moment_told : (m : ℕ) (e : Event) → Tells (kept.Moment m) e → e ≡ Moment m
moment_told m (Start b program) told = absurd (cc)
moment_told m (Act b own w) told = absurd (cc)
moment_told m (Child parent own b other) told = absurd (cc)
moment_told m (Generation crew) told = (let kept_is = told.1 in absurd (cc))
moment_told m (Report slot output) told = (let kept_is = told.2 in absurd (cc))
moment_told m (End b q r status) told = absurd (cc)
moment_told m (Stop b) told = absurd (cc)
moment_told m (Moment n) told = cc
moment_told m (Halt how contents) told = absurd (cc)

pub generation_told : (now : ℕ) (e : Event) → Tells (kept.Generation now) e → e ≡ generation_at now
generation_told now (Start b program) told = absurd (cc)
generation_told now (Act b own w) told = absurd (cc)
generation_told now (Child parent own b program) told = absurd (cc)
generation_told now (Generation crew) told =
    let same : kept.Generation now ≡ kept.Generation told.0 = told.1 in
    let start : now ≡ told.0 = cc in
    ap (λ (programs : List Program). Generation programs) (told.2 ∙ ap crew_at (sym start))
generation_told now (Report slot output) told = (let kept_is = told.2 in absurd (cc))
generation_told now (End b q r status) told = absurd (cc)
generation_told now (Stop b) told = absurd (cc)
generation_told now (Moment m) told = absurd (cc)
generation_told now (Halt how contents) told = absurd (cc)

pub report_told : (slot letter : ℕ) (text : List ℕ) (e : Event) → Tells (kept.Report slot letter text) e → e ≡ Report slot (report_text letter text)
report_told slot letter text (Start b program) told = absurd (cc)
report_told slot letter text (Act b own w) told = absurd (cc)
report_told slot letter text (Child parent own b program) told = absurd (cc)
report_told slot letter text (Generation crew) told = (let kept_is = told.1 in absurd (cc))
report_told slot letter text (Report other output) told =
    let kept_is = told.2 in
    let same : other ≡ slot = cc in
    let letters : told.0 ≡ letter = cc in
    let texts : told.1 ≡ text = cc in
    ap (λ (n : ℕ). Report n output) same ∙ ap (λ (bytes : List ℕ). Report slot bytes) (told.3 ∙ (ap (λ (n : ℕ). report_text n told.1) letters ∙ ap (λ (words : List ℕ). report_text letter words) texts))
report_told slot letter text (End b q r status) told = absurd (cc)
report_told slot letter text (Stop b) told = absurd (cc)
report_told slot letter text (Moment m) told = absurd (cc)
report_told slot letter text (Halt how contents) told = absurd (cc)
