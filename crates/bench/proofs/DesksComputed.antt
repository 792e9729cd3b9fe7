-- The desk's table of cases, told anew by the definitions, is the table. It holds by computation.
-- Assumes nothing.
use mathlib.Core.Path.{◌≡◌, refl}
use Rattle.text.specs.Text.{parts}
use Rattle.text.specs.Lines.{lines_of}
use Rattle.transcripts.specs.Transcripts.{lines_in, key_of, has_key, occurrence}
use Rattle.transcripts.specs.Finding.{sought}
use Rattle.transcripts.specs.Listing.{listed_behind, listed_lines}
use Rattle.bench.specs.Desks.{look_all, looks, list_all, pairs}

pub looks-computed : look_all looks ≡ looks
unfolding parts lines_of lines_in key_of has_key occurrence sought look_all looks
looks-computed = refl

pub lists-computed : list_all pairs ≡ pairs
unfolding parts lines_of lines_in key_of has_key occurrence listed_behind listed_lines list_all pairs
lists-computed = refl
