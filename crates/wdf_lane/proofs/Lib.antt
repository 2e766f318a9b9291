mod LaneLemmas
mod SampleLanes
mod DecodeLemmas
mod LimitLemmas
