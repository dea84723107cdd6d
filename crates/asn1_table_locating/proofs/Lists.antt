-- How far two lists are the same.
use Rattle.std.proofs.lemmas.List.{take_more_same, take_all}
use Rattle.std.proofs.lemmas.Option.{slice_get_cases}

pub ruleset same_beginnings = (take_more_same, take_all, slice_get_cases)
