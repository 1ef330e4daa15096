-- What an injector stands for with its input.
use Rattle.std.proofs.Common.{◌≡◌, ℕ, List, [], Bool, true, false, refl, sym, ap, ◌∙◌, subst}
use Rattle.call_fs.specs.declared.past.Own.{Own}
use Rattle.call_fs.specs.declared.past.NeedData.{NeedData}
use Rattle.call_fs.specs.declared.past.NeedData.TheVariants as needs
use Rattle.call_fs.specs.declared.program.Ready.{Ready}
use Rattle.queue_inject.specs.declared.injection.Arguments.{Arguments}
use Rattle.queue_inject.specs.Machine.{Machine, due_now, late_now, call_now}
use Rattle.queue_inject.specs.Stands.{Stands, IsStartedBy}
use Rattle.queue_inject.specs.Table.{has_input, in_time}
use Rattle.fed_injector.specs.declared.machine.FedInjector.{FedInjector}
use Rattle.fed_injector.specs.declared.machine.Input.{Input}
use Rattle.fed_injector.specs.declared.machine.Input.TheVariants.{Awaited, Given, Cut}
use Rattle.fed_injector.specs.Inputs.{AreInputs, IsNoInput, with_input, is_awaited, awaits, IsWaiting, StandsWith, FedStands}

-- one that waits goes on waiting while its input isn't ready
waits_by : (input late later : Bool) (due : NeedData) → in_time input late due ≡ needs.Wait → in_time false later due ≡ needs.Wait
waits_by input late later (needs.Ended status) is = is
waits_by input late later (needs.File call) is = refl
waits_by input late later (needs.Take port) is = is
waits_by input late later (needs.Give port bytes) is = is
waits_by input late later (needs.Start asked) is = is
waits_by input late later (needs.Command bytes) is = is
waits_by input late later needs.Wait is = is

still_waits : (m : Machine) (now : ℕ) (ready : Ready) → due_now m ≡ needs.Wait → has_input ready ≡ false → due_now (record m { present = now; ready = ready }) ≡ needs.Wait
still_waits m now ready is none =
    let n : Machine = record m { present = now; ready = ready } in
    ap (λ (t : Bool). in_time t (late_now n) (call_now n)) none ∙ waits_by (has_input m.ready) (late_now m) (late_now n) (call_now m) is

looked_with : (input : Input) (m n : Machine) (now : ℕ) (ready : Ready) → ((args : Arguments) (past : List Own) → Stands m args past → Stands n args past)
    → n ≡ record m { present = now; ready = ready } → (is_awaited input ≡ true → has_input ready ≡ false)
    → (args : Arguments) (past : List Own) → StandsWith input m args past → StandsWith input n args past
looked_with Awaited m n now ready stands is none args past f = record {
  past_is = f.past_is;
  waits = ap due_now is ∙ still_waits m now ready f.waits (none refl);
  none = f.none;
  stands = λ others by. stands others [] (f.stands others by);
}
looked_with (Given message envelope) m n now ready stands is none args past f = (stands args past f.0, f.1)
looked_with Cut m n now ready stands is none args past f = (stands args past f.0, f.1)

pub looked : (f : FedInjector) (n : Machine) (now : ℕ) (ready : Ready) → ((args : Arguments) (past : List Own) → Stands f.injector args past → Stands n args past)
    → n ≡ record f.injector { present = now; ready = ready } → (awaits f ≡ true → has_input ready ≡ false)
    → (args : Arguments) (past : List Own) → FedStands f args past → FedStands (record { injector = n; input = f.input }) args past
looked f n now ready stands is none args past holds = looked_with f.input f.injector n now ready stands is none args past holds

-- the same injector is started so
itself : (args : Arguments) → IsStartedBy args args.uid args.pid args.invoked args.start
itself args = record { uid_is = refl; pid_is = refl; invoked_is = refl; start_is = refl }

pub cut_stands : (input : Input) (m : Machine) (args : Arguments) (past : List Own) → is_awaited input ≡ true → StandsWith input m args past → Stands m args past × IsNoInput args
cut_stands Awaited m args past is f = (subst (λ (p : List Own). Stands m args p) (sym f.past_is) (f.stands args (itself args)), f.none)
cut_stands (Given message envelope) m args past is f = absurd (cc)
cut_stands Cut m args past is f = f

pub give_stands : (input : Input) (m : Machine) (args : Arguments) (past : List Own) (message envelope : List ℕ) → is_awaited input ≡ true → StandsWith input m args past
    → Stands m (with_input message envelope args) past × AreInputs (with_input message envelope args) message envelope
give_stands Awaited m args past message envelope is f = (
  subst (λ (p : List Own). Stands m (with_input message envelope args) p) (sym f.past_is)
      (f.stands (with_input message envelope args) (record { uid_is = refl; pid_is = refl; invoked_is = refl; start_is = refl })),
  record { message_is = refl; message_whole = refl; envelope_is = refl; envelope_whole = refl },
)
give_stands (Given m1 e1) m args past message envelope is f = absurd (cc)
give_stands Cut m args past message envelope is f = absurd (cc)

pub new_stands : (m : Machine) (args : Arguments) → due_now m ≡ needs.Wait → IsNoInput args
    → ((others : Arguments) → IsStartedBy others args.uid args.pid args.invoked args.start → Stands m others []) → IsWaiting m args []
new_stands m args waits none stands = record { past_is = refl; waits = waits; none = none; stands = stands }

-- What it is fed leaves it standing, and it awaits nothing.

abbrev FedSo : FedInjector → Ready → Arguments → List Own → Type 0
FedSo f ready args past = FedStands f args past × (awaits f ≡ true → has_input ready ≡ false)

not_given : (input : Input) (message envelope : List ℕ) → input ≡ Given message envelope → is_awaited input ≡ true → ⊥
not_given input message envelope is waits = let v : false ≡ true = sym (ap is_awaited is) ∙ waits in absurd (cc)

not_cut : (input : Input) → input ≡ Cut → is_awaited input ≡ true → ⊥
not_cut input is waits = let v : false ≡ true = sym (ap is_awaited is) ∙ waits in absurd (cc)

pub fed_given : (f : FedInjector) (n : Machine) (ready : Ready) (message envelope a b : List ℕ) → f.input ≡ Given message envelope → a ≡ message → b ≡ envelope
    → ((args : Arguments) (past : List Own) → AreInputs args a b → Stands f.injector args past → Stands n args past)
    → (args : Arguments) (past : List Own) → FedStands f args past → FedStands (record { injector = n; input = f.input }) args past × (is_awaited f.input ≡ true → has_input ready ≡ false)
fed_given f n ready message envelope a b is message_is envelope_is fed args past holds = (
  subst (λ (i : Input). StandsWith i f.injector args past → StandsWith i n args past) (sym is)
      (λ h. (
        fed args past (record {
          message_is = h.1.message_is ∙ sym message_is;
          message_whole = h.1.message_whole;
          envelope_is = h.1.envelope_is ∙ sym envelope_is;
          envelope_whole = h.1.envelope_whole;
        }) h.0,
        h.1,
      )) holds,
  λ waits. absurd (not_given f.input message envelope is waits),
)

pub fed_cut : (f : FedInjector) (n : Machine) (ready : Ready) → f.input ≡ Cut
    → ((args : Arguments) (past : List Own) → IsNoInput args → Stands f.injector args past → Stands n args past)
    → (args : Arguments) (past : List Own) → FedStands f args past → FedStands (record { injector = n; input = f.input }) args past × (is_awaited f.input ≡ true → has_input ready ≡ false)
fed_cut f n ready is fed args past holds = (
  subst (λ (i : Input). StandsWith i f.injector args past → StandsWith i n args past) (sym is) (λ h. (fed args past h.1 h.0, h.1)) holds,
  λ waits. absurd (not_cut f.input is waits),
)
