use Rattle.std.proofs.Common.{refl}
use Rattle.call_fs.specs.Maps.{put}
use Rattle.mail_bytes.specs.Decimal.{digits, number_of, value}
use Rattle.queue_paths.specs.Names.{parse, path}
use Rattle.program_law.proofs.posts.a_worked_post.Goals as goal

pub returns : goal.returns
unfolding digits value number_of path parse put
returns c = record { greets = refl; flies = refl; asks = refl; takes = refl; tells = refl; done = refl; hears_it = refl }
