-- What the slow learner keeps of the search for a cut.
use Rattle.lw_plain.specs.Table.{Search}
use Rattle.lw_plain_run.specs.declared.cut.Search.{Search as Kept}

-- a search of the definition
abbrev pub search_of : Kept → Search
search_of s = record { low = s.low; high = s.high; tried = s.tried.items }
