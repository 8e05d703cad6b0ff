mod ChangeLemmas
mod PreambleLemmas
mod WithoutLemmas
mod WrongLemmas
