-- `writing::put_large` calls itself at n / 1000000, so the measure is n.
use Rattle.text.proofs.writing.+put_large.Given as goal

abbrev pub decreases-put_large : goal.decreases-put_large
decreases-put_large l = l.n
