mod FindingLemmas
mod LeafLemmas
mod LineLemmas
mod OneReport
mod RatioLemmas
mod Roots
mod WorkedLemmas
