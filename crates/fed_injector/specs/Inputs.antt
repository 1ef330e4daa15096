-- The input of an injector, and what an injector stands for that is fed it as it goes.
use Rattle.std.specs.Prelude.{◌≡◌, ℕ, List, [], Bool, true, false, Option, Some, None}
use Rattle.call_fs.specs.declared.past.Own.{Own}
use Rattle.call_fs.specs.declared.past.NeedData.TheVariants.{Wait}
use Rattle.queue_inject.specs.declared.injection.Arguments.{Arguments}
use Rattle.queue_inject.specs.declared.injection.InputEnd.TheVariants.{Whole, Unread}
use Rattle.queue_inject.specs.declared.injection.Part.{Part}
use Rattle.queue_inject.specs.declared.injection.Part.TheVariants.{Message, Envelope}
use Rattle.queue_inject.specs.Machine.{Machine, due_now}
use Rattle.queue_inject.specs.Stands.{Stands, IsStartedBy}
use Rattle.fed_injector.specs.declared.machine.FedInjector.{FedInjector}
use Rattle.fed_injector.specs.declared.machine.Input.{Input}
use Rattle.fed_injector.specs.declared.machine.Input.TheVariants.{Awaited, Given, Cut}

-- these are the message and the envelope, both whole
pub record AreInputs (args : Arguments) (message envelope : List ℕ) : Type 0 where
  pub message_is : args.message ≡ message
  pub message_whole : args.message_end ≡ Whole
  pub envelope_is : args.envelope ≡ envelope
  pub envelope_whole : args.envelope_end ≡ Whole

-- this is the part of the input, whole
abbrev pub IsInput : Option Part → Arguments → List ℕ → Type 0
IsInput None args text = Unit {0}
IsInput (Some Message) args text = (args.message ≡ text) × (args.message_end ≡ Whole)
IsInput (Some Envelope) args text = (args.envelope ≡ text) × (args.envelope_end ≡ Whole)

-- the input ended before its first byte
pub record IsNoInput (args : Arguments) : Type 0 where
  pub message_is : args.message ≡ []
  pub message_end : args.message_end ≡ Unread
  pub envelope_is : args.envelope ≡ []
  pub envelope_end : args.envelope_end ≡ Unread

-- the same injector with this message and this envelope, both whole
abbrev pub with_input : List ℕ → List ℕ → Arguments → Arguments
with_input message envelope args =
    record args { message = message; message_end = Whole; envelope = envelope; envelope_end = Whole }

-- its input isn't given yet, and may still be
abbrev pub is_awaited : Input → Bool
is_awaited Awaited = true
is_awaited (Given message envelope) = false
is_awaited Cut = false

abbrev pub awaits : FedInjector → Bool
awaits fed = is_awaited fed.input

-- An injector whose input isn't given yet has done nothing, and waits; so it stands for whatever input it will be given, and for none.
pub record IsWaiting (m : Machine) (args : Arguments) (past : List Own) : Type 0 where
  pub past_is : past ≡ []
  pub waits : due_now m ≡ Wait
  pub none : IsNoInput args
  pub stands : (others : Arguments) → IsStartedBy others args.uid args.pid args.invoked args.start → Stands m others []

-- An injector with its input stands for this past.
abbrev pub StandsWith : Input → Machine → Arguments → List Own → Type 0
StandsWith Awaited m args past = IsWaiting m args past
StandsWith (Given message envelope) m args past = Stands m args past × AreInputs args message envelope
StandsWith Cut m args past = Stands m args past × IsNoInput args

abbrev pub FedStands : FedInjector → Arguments → List Own → Type 0
FedStands fed args past = StandsWith fed.input fed.injector args past
