-- A post as it goes: the delivery of a worked run of the local spawner, from the request to the report that the sender takes.
use Rattle.std.specs.Prelude.{◌≡◌, List, [], ◌∷◌, ◌++◌, take, drop, replicate, false, None, Some, codes}
use Rattle.call_fs.specs.declared.past.GotData.{GotData}
use Rattle.call_fs.specs.declared.program.Ready.{Ready}
use Rattle.send_jobs.specs.declared.attempts.Attempt.{Attempt}
use Rattle.send_jobs.specs.Slots.{attempt_in}
use Rattle.spawn_protocol.specs.declared.request.Request.{Request}
use Rattle.spawn_protocol.specs.Report.Reader.{AtBegin}
use Rattle.local_spawn.specs.Table.{begun}
use Rattle.local_spawn.specs.Worked.{delivery, field}
use Rattle.mail_bytes.specs.Texts.{line}
use Rattle.program_law.specs.Post.Posts.{Post, asks_for, due_of, fresh, greeted, hears, with_slots, works}
use Rattle.program_law.specs.Post.Posts.Spawner.{Local}

-- what is due comes out so, one after the other; what is started is called `l.1`
abbrev goes : Post → List (Ready × GotData) → Post
goes x [] = x
goes x ((ready, got) ∷ later) = goes (works (record { read = 0; ready = ready; due = due_of x.spawner ready; came = got }) 0 (codes "l.1") x) later

abbrev started : Post
started = goes (fresh (Local begun) (λ slot. None) (λ slot. None) []) (take 4 delivery)

abbrev attempt : Attempt
attempt = record { n = 1; place = 0; dying = false; delivery = 1; address = codes "J-b@c@localhost" }

abbrev request : Request
request = record { slot = 7; mess = codes "1/1"; sender = codes "a@x"; recipient = codes "J-b@c@localhost" }

-- the sender takes the first byte, has eight slots, and gives the request
abbrev asked : Post
asked = asks_for attempt request (with_slots (replicate 8 None) (greeted [] started))

-- up to the report
abbrev reported : Post
reported = goes asked (take 11 (drop 4 delivery))

abbrev heard : Post
heard = hears AtBegin reported.told [] reported

pub record WorkedPost : Type 0 where
  pub greets : started.told ≡ 120 ∷ []
  pub flies : attempt_in asked.slots 7 ≡ Some attempt
  pub asks : asked.asked ≡ 7 ∷ (field (codes "1/1") ++ (field (codes "a@x") ++ field (codes "J-b@c@localhost")))
  pub takes : reported.asked ≡ []
  pub tells : reported.told ≡ 7 ∷ field (line (codes "Kdid 1+0+0"))
  pub done : reported.done ≡ record { slot = 7; task = record { name = codes "l.1"; sender = codes "a@x"; recipient = codes "J-b@c@localhost" } } ∷ []
  pub hears_it : attempt_in heard.slots 7 ≡ None
