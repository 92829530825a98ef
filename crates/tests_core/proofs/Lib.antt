mod Updates
