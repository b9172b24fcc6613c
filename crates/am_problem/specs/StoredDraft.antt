-- A draft as contracts see it.
use Rattle.std.specs.Prelude.{◌≡◌, None}
use Rattle.am_problem.specs.declared.draft.Draft.TheInside.{Inside}
use Rattle.am_problem.specs.Limits.{IsFormed}
use Rattle.am_problem.specs.StoredLines.{seen_lines}
use Rattle.am_problem.specs.Texts.{Draft, numbered}

-- what its lines say, and where the first name without a rule stands
abbrev pub seen : Inside → Draft
seen d = record { lines = seen_lines d.lines; undefined = d.undefined }

-- where each name has a rule, the lines are those of a problem whose parts are within their limits
pub record IsStoredDraft (d : Inside) : Type 0 where
  pub formed : d.undefined ≡ None → IsFormed (numbered (seen_lines d.lines))

-- contracts see a draft as it is
abbrev pub seen_draft : Draft → Draft
seen_draft d = d
