mod ListLemmas
mod StopLemmas
mod Complete
mod Sound
