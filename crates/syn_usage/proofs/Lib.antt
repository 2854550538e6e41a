mod SimpleUsage
mod UsageOfWords
