-- The texts of failures, and their exit statuses (qmail-local(8)).
use Rattle.std.specs.Prelude.{ℕ, List, [], ◌∷◌, ◌++◌, codes}
use Rattle.local_parts.specs.declared.endings.TheConstants.{PERMANENT, TEMPORARY}
use Rattle.local_deliver.specs.declared.row.Failure.{Failure}
use Rattle.local_deliver.specs.declared.row.Failure.TheVariants.{Unreadable, Looping, Home, NoMailbox, BlankFirst, Mailbox, Maildir}

abbrev pub said_of : Failure → List ℕ
said_of Unreadable = codes "Unable to read the message. (#4.3.0)"
said_of Looping = codes "This message is looping: it already has my Delivered-To line. (#5.4.6)"
said_of Home = codes "Unable to read the home. (#4.3.0)"
said_of NoMailbox = codes "Sorry, no mailbox here by that name. (#5.1.1)"
said_of BlankFirst = codes "Uh-oh: first line of .qmail file is blank. (#4.2.1)"
said_of Mailbox = codes "Mailbox files are not delivered to here. (#4.3.0)"
said_of Maildir = codes "Temporary error on maildir delivery. (#4.3.0)"

-- as a line
abbrev pub text_of : Failure → List ℕ
text_of failure = said_of failure ++ 10 ∷ []

-- 100 if no later try will go well, else 111
abbrev pub status_of : Failure → ℕ
status_of Unreadable = TEMPORARY
status_of Looping = PERMANENT
status_of Home = TEMPORARY
status_of NoMailbox = PERMANENT
status_of BlankFirst = TEMPORARY
status_of Mailbox = TEMPORARY
status_of Maildir = TEMPORARY
